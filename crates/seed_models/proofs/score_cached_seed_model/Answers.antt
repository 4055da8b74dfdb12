-- The sum, the count and what is made of them. Assumes nothing.
use Rattle.seed_models.specs.Models as M
use Rattle.seed_models.proofs.score_cached_seed_model.Goals as goal

pub returns : goal.returns
unfolding M.score_cached_seed_model
returns c = rw (← c.num_of-num.ensures, ← c.count_f32-n.ensures) c.seed_from.ensures
