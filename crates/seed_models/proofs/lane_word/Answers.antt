-- Three kinds of word. Assumes nothing.
use Rattle.seed_models.proofs.ModelLaws.{word_mean, word_denom, word_centered}
use Rattle.seed_models.proofs.lane_word.Goals as goal

pub returns-then-r-eq0 : goal.returns-then-r-eq0
returns-then-r-eq0 c = word_mean _ _ _ _ c.q_sums-s.ensures _ c.if-r-eq0.true

pub returns-then-r-eq1 : goal.returns-then-r-eq1
returns-then-r-eq1 c = word_denom _ _ _ _ c.q_sums-s.ensures _ c.if-r-eq1.true

pub returns : goal.returns
returns c =
    let few = c.requires.2 in
    word_centered _ _ _ _ c.q_sums-s.ensures _ _ c.if-r-eq0.false c.if-r-eq1.false few c.q_at.ensures
