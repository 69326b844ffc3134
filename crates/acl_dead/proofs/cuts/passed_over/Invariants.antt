use Rattle.std.proofs.Common.{◌≡◌, ◌+◌, length}
use Rattle.acl_sets.specs.SweepSteps.{passed}
use Rattle.acl_dead.proofs.cuts.passed_over.Given as goal

abbrev pub invariant-loop-range : goal.invariant-loop-range
invariant-loop-range l = passed (l.high + 1) l.rest ≡ passed (l.high + 1) l.fn.ranges

abbrev pub decreases-loop-range : goal.decreases-loop-range
decreases-loop-range l = length l.rest
