-- No leader, one or two. Assumes nothing.
use Rattle.search.specs.Search as S
use Rattle.search.proofs.led.Goals as goal

pub returns-in_default : goal.returns-in_default
unfolding S.led S.first_led
returns-in_default c = rw c.in_default.is

pub returns-in_default-second : goal.returns-in_default-second
unfolding S.led S.first_led S.second_led
returns-in_default-second c = rw (c.in-Some.is, c.in_default-second.is, ← c.lead-a.ensures.1)

pub returns : goal.returns
unfolding S.led S.first_led S.second_led
returns c = rw (c.in-Some.is, c.in-Some-second.is, ← c.lead-a.ensures.1, ← c.lead.ensures.1)
