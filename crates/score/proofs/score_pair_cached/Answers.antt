-- Two refusals, and then the sums and what is made of them. Assumes nothing.
use Rattle.score.specs.Score as S
use Rattle.score.proofs.score_pair_cached.Goals as goal

pub returns-then-not-valid_pair : goal.returns-then-not-valid_pair
unfolding S.score_pair_cached
returns-then-not-valid_pair c =
    let v = c.valid_pair in
    λ xs ys angles weights l. rw (← v.ensures, c.if-not-valid_pair.true)

pub returns-then-val_energy : goal.returns-then-val_energy
unfolding S.score_pair_cached
returns-then-val_energy c =
    let v = c.valid_pair in
    λ xs ys angles weights l. rw (← v.ensures, c.if-not-valid_pair.false, c.if-val_energy.true)

pub returns : goal.returns
unfolding S.score_pair_cached
returns c =
    let v = c.valid_pair in
    λ xs ys angles weights l. rw (
      ← v.ensures,
      c.if-not-valid_pair.false,
      c.if-val_energy.false,
      l,
      ← c.cached_sums-s.ensures,
      ← c.count_f32-n_inv.ensures,
    ) c.scored_sums.ensures
