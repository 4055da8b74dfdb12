-- The first value that is not finite, if there is one, is refused at its place. Assumes nothing.
use Rattle.std.proofs.Common.{sym, arith}
use Rattle.checked.specs.CheckedLaws.{wild_first}
use Rattle.checked.proofs.check_values.Goals as goal

pub overflow_cast-result : goal.overflow_cast-result
overflow_cast-result c = omega (arith, (wild_first _ _ (sym c.in-Some.ensures.value)).inside, c.requires.0)

pub overflow_add-result : goal.overflow_add-result
overflow_add-result c = omega (arith, (wild_first _ _ (sym c.in-Some.ensures.value)).inside, c.requires.0)
