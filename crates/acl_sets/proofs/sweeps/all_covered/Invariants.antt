use Rattle.std.proofs.Common.{◌≡◌, drop, map}
use Rattle.acl_sets.specs.SweepSteps.{covered_walk}
use Rattle.acl_sets.proofs.sweeps.all_covered.Given as goal

abbrev pub invariant-loop-range : goal.invariant-loop-range
invariant-loop-range g l =
    covered_walk (map g.T.Span.range (drop l.range-index l.ranges)) (map g.U.Span.range l.rest)
    ≡ covered_walk (map g.T.Span.range l.ranges) (map g.U.Span.range l.others)
