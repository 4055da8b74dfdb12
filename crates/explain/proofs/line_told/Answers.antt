-- Three texts side by side are one; what is not so is not told. Assumes nothing.
use Rattle.std.proofs.Common.{ℕ, ◌+◌, ◌≤◌, List, [], arith}
use Rattle.explain_words.specs.Tell.{Said}
use Rattle.explain_words.specs.TellLaws.{said_none, said_then}
use Rattle.explain_sorts.specs.Sorts.{is_alone}
use Rattle.explain_sentences.specs.Sentences.{alone_rows, telling_if}
use Rattle.explain.proofs.line_told.Goals as goal
use Rattle.explain.proofs.line_told.Goals.{then-is_alone, else-is_alone}

pub returns-then-is_strange : goal.returns-then-is_strange
returns-then-is_strange c =
    let p = c.args.page.now in
    let q = c.if-is_alone.page in
    let t : (ws : List (List ℕ)) × ((q.at ≤ p.at + 5280) × Said p q (telling_if (is_alone c.args.sort) ws (alone_rows c.args.a))) =
    elim c.if-is_alone.branch [
      | then-is_alone w ↦
          (w.alone_told.ensures.1.words, rw (w.page-is, ← c.is_alone.ensures, w.if-is_alone.true) (w.alone_told.ensures.0, w.alone_told.ensures.1.said))
      | else-is_alone w ↦ ([], rw (w.page-is, ← c.is_alone.ensures, w.if-is_alone.false) (omega arith, said_none p (omega arith)))
    ] in
    let u = c.body_told.ensures.1 in
    let v = c.mismatch_told.ensures.1 in
    let fits = t.1.0 in
    let kept = t.1.1.kept in
    let w = said_then t.1.1 (said_then u.said v.said (omega (arith, kept, fits))) (omega (arith, kept, u.said.kept, fits)) in
    (omega (arith, fits), record { first = t.0; second = u.words; third = v.words; said = rw (← c.is_strange.ensures, c.if-is_strange.true) w })

pub returns-else-is_strange : goal.returns-else-is_strange
returns-else-is_strange c =
    let p = c.args.page.now in
    let q = c.if-is_alone.page in
    let t : (ws : List (List ℕ)) × ((q.at ≤ p.at + 5280) × Said p q (telling_if (is_alone c.args.sort) ws (alone_rows c.args.a))) =
    elim c.if-is_alone.branch [
      | then-is_alone w ↦
          (w.alone_told.ensures.1.words, rw (w.page-is, ← c.is_alone.ensures, w.if-is_alone.true) (w.alone_told.ensures.0, w.alone_told.ensures.1.said))
      | else-is_alone w ↦ ([], rw (w.page-is, ← c.is_alone.ensures, w.if-is_alone.false) (omega arith, said_none p (omega arith)))
    ] in
    let u = c.body_told.ensures.1 in
    let r = c.body_told.new.page in
    let fits = t.1.0 in
    let kept = t.1.1.kept in
    let none = said_none r (omega (arith, kept, u.said.kept, fits)) in
    let w = said_then t.1.1 (said_then u.said none (omega (arith, kept, fits))) (omega (arith, kept, u.said.kept, fits)) in
    (omega (arith, fits), record { first = t.0; second = u.words; third = []; said = rw (← c.is_strange.ensures, c.if-is_strange.false) w })
