use Rattle.std.proofs.Common.{◌≡◌, ◌++◌, drop, map}
use Rattle.acl_sets.specs.SweepSteps.{lower, not_lower}
use Rattle.acl_sets.proofs.sweeps.push_lower.Given as goal

abbrev pub invariant-loop-i : goal.invariant-loop-i
invariant-loop-i g l = record {
  put : map g.T.Span.range l.out.items ++ lower l.low (map g.T.Span.range (drop l.i l.ranges))
      ≡ map g.T.Span.range l.fn.out.items ++ lower l.low (map g.T.Span.range l.ranges);
  rest : not_lower l.low (map g.T.Span.range (drop l.i l.ranges)) ≡ not_lower l.low (map g.T.Span.range l.ranges);
}
