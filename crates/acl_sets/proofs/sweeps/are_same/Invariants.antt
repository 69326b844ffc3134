use Rattle.std.proofs.Common.{◌≡◌, drop, map}
use Rattle.acl_sets.proofs.sweeps.are_same.Given as goal

abbrev pub invariant-loop-range : goal.invariant-loop-range
invariant-loop-range g l = record {
  to : map g.T.Span.range (drop l.range-index l.ranges) ≡ map g.U.Span.range l.rest
      → map g.T.Span.range l.ranges ≡ map g.U.Span.range l.others;
  back : map g.T.Span.range l.ranges ≡ map g.U.Span.range l.others
      → map g.T.Span.range (drop l.range-index l.ranges) ≡ map g.U.Span.range l.rest;
}
