use Rattle.std.proofs.Common.{◌≡◌, ◌++◌, drop, map}
use Rattle.acl_sets.specs.SweepSteps.{merged, merged_from}
use Rattle.acl_sets.proofs.sweeps.merged.Given as goal

abbrev pub invariant-loop-range : goal.invariant-loop-range
invariant-loop-range g l =
    map g.T.Span.range l.out.items ++ merged_from (g.T.Span.range l.last) (map g.T.Span.range (drop l.range-index l.rest))
    ≡ merged (map g.T.Span.range l.ranges)
