use Rattle.std.proofs.Common.{◌≡◌, drop, map}
use Rattle.acl_sets.specs.SweepSteps.{passed}
use Rattle.acl_sets.proofs.sweeps.passed.Given as goal

abbrev pub invariant-loop-i : goal.invariant-loop-i
invariant-loop-i g l =
    passed l.high (map g.T.Span.range (drop l.i l.ranges)) ≡ passed l.high (map g.T.Span.range l.ranges)
