-- The first test that decides, in the definition's order. Assumes nothing.
use Rattle.search_ranking.specs.RankingLaws.{before_forced, before_scores, before_places}
use Rattle.search_ranking.proofs.is_before.Goals as goal

pub returns-then-a-b : goal.returns-then-a-b
returns-then-a-b c = before_forced _ _ c.if-a-b.true

pub returns-then-ka-kb : goal.returns-then-ka-kb
returns-then-ka-kb c =
    rw (c.total_key-ka.ensures, c.total_key-kb.ensures)
    (before_scores _ _ c.if-a-b.false (rw (c.total_key-ka.ensures, c.total_key-kb.ensures) at c.if-ka-kb.true))

pub returns : goal.returns
returns c =
    rw (c.is_lt.ensures, c.then.ensures, c.cmp.ensures, c.cmp-2.ensures)
    (before_places _ _ c.if-a-b.false (rw (c.total_key-ka.ensures, c.total_key-kb.ensures) at c.if-ka-kb.false))
