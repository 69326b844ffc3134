use Rattle.std.proofs.Common.{◌≡◌, ◌++◌, drop, map}
use Rattle.acl_sets.specs.SweepSteps.{woven}
use Rattle.acl_sets.proofs.sweeps.woven.Given as goal

abbrev pub invariant-loop-range : goal.invariant-loop-range
invariant-loop-range g l =
    map g.T.Span.range l.out.items ++ woven (map g.T.Span.range (drop l.range-index l.ranges)) (map g.T.Span.range l.rest)
    ≡ woven (map g.T.Span.range l.ranges) (map g.T.Span.range l.others)
