-- Multiples dropped on the way are multiples of the whole, so each turn keeps the remainder. Assumes nothing.
use Rattle.std.proofs.Common.{◌≡◌, ◌*◌, ◌-◌, ◌%◌, ◌^◌, ◌<◌}
use Rattle.remainders.proofs.reduced.Given as goal

abbrev pub invariant-loop : goal.invariant-loop
invariant-loop l = (l.n < 16777216) × (l.n * 2 ^ (l.fn.k - 32 * l.counter) % 13176795 ≡ l.fn.m * 2 ^ l.fn.k % 13176795)
