-- The first of five keys that tells, or else the last. Assumes nothing.
use Rattle.score.specs.ScoreLaws.{better_told}
use Rattle.score.proofs.fit_is_better.Goals as goal

pub returns : goal.returns
returns c =
    rw (
      c.unwrap_or.ensures,
      c.or-4.ensures,
      c.or-3.ensures,
      c.or-2.ensures,
      c.or.ensures,
      c.lower.ensures,
      c.lower-2.ensures,
      c.higher.ensures,
      c.lower-3.ensures,
      c.lower-4.ensures,
    ) (better_told c.args.a c.args.b)
