-- A full set stays, an angle that is near is dropped, and another is appended. Assumes nothing.
use borrow.Author.Tests.{le-leb, lt-leb}
use Rattle.candidates.specs.Candidates as C
use borrow.Author.Rules.{rules}
use Rattle.candidates.proofs.CandidateSet.push_unique.Goals as goal

pub returns-then-n-ge-MAX_CANDIDATES : goal.returns-then-n-ge-MAX_CANDIDATES
unfolding C.push_unique
returns-then-n-ge-MAX_CANDIDATES c = (search rules, search rules, rw (le-leb _ _ c.if-n-ge-MAX_CANDIDATES.true))

pub returns-then-is_near : goal.returns-then-is_near
unfolding C.push_unique
returns-then-is_near c =
    (search rules, search rules, rw (lt-leb _ _ c.if-n-ge-MAX_CANDIDATES.false, ← c.wrap_pi-a.ensures.value, ← c.is_near.ensures, c.if-is_near.true))

pub returns : goal.returns
unfolding C.push_unique C.appended
returns c =
    (search rules, search rules, rw (lt-leb _ _ c.if-n-ge-MAX_CANDIDATES.false, ← c.wrap_pi-a.ensures.value, ← c.is_near.ensures, c.if-is_near.false))
