-- Four calls in the definition's order. Assumes nothing.
use mathlib.Core.Path.{ap, sym}
use Rattle.search.specs.Search as S
use Rattle.score.specs.Score.{Alignments}
use Rattle.search.proofs.pool_of.Goals as goal

pub returns : goal.returns
unfolding S.pool_of
returns c =
    let d = c.args.d in
    let e = c.precompute_edge_alignments-grad_total.ensures d.val_energy d.xs.now d.ys.now d.vals_centered.now (sym d.sized.a) in
    let seed = c.forced_seed_pair-force_seed.ensures in
    let hist = c.forced_histogram_pair-force_hist.ensures in (
      c.build_pair_pool.ensures.0,
      rw (← ap (λ (z : Alignments). z.out) e, ← ap (λ (z : Alignments). z.total) e, ← seed, ← hist) c.build_pair_pool.ensures.1,
    )
