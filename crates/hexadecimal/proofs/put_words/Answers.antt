-- The loop keeps that the words so far are one write. Assumes nothing.
use mathlib.Core.Path.{◌∙◌, sym, ap}
use Prim.Native.Nat.{◌+◌, ◌*◌}
use native.Mathlib.Omega.{arith}
use lib.ListN.{get_or}
use Rattle.hexadecimal.specs.Hex.{words_text, word_text, put}
use Rattle.hexadecimal.specs.HexLaws.{put_put, put_none, words_length, word_length, words_none, words_next}
use Rattle.hexadecimal.proofs.put_words.Goals as goal

pub loop-k-init : goal.loop-k-init
loop-k-init c = rw words_none (sym (put_none _ _ (omega arith)))

pub loop-k-preserved : goal.loop-k-preserved
loop-k-preserved c =
    let k = c.loop-k.k in
    let w = word_text (get_or c.args.ws.now k 0) in
    let e = words_length c.args.ws.now k in
    c.put_word.ensures
    ∙ ap (λ l. put l (c.args.at + 8 * k) w) c.loop-k.invariant
    ∙ rw words_next (put_put c.args.out.now c.args.at (words_text c.args.ws.now k) w (c.args.at + 8 * k) (omega arith)
    (omega (arith, word_length (get_or c.args.ws.now k 0))))
