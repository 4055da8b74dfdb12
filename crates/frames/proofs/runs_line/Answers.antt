-- The values are the line's words, and the checked entry answers them. Assumes nothing.
use Rattle.frames.specs.RunsLaws.{runs_of_line}
use Rattle.frames.proofs.runs_line.Goals as goal

pub returns : goal.returns
returns c =
    let vs = rw c.requires.2 at c.values.ensures in
    rw (← runs_of_line _ c.args.n, ← c.value_at-energy.ensures, ← c.value_at-base0.ensures, ← c.value_at-base1.ensures, ← vs) c.runs_fit.ensures
