use Rattle.std.proofs.Common.{◌≡◌, ◌++◌, drop, map}
use Rattle.acl_sets.specs.SweepSteps.{passed, shared_along}
use Rattle.acl_sets.proofs.sweeps.push_shared_along.Given as goal

abbrev pub invariant-loop-i : goal.invariant-loop-i
invariant-loop-i g l = record {
  put : map g.T.Span.range l.out.items ++ shared_along (g.T.Span.range l.range) (map g.T.Span.range (drop l.i l.others))
      ≡ map g.T.Span.range l.fn.out.items ++ shared_along (g.T.Span.range l.range) (map g.T.Span.range l.others);
  rest : passed (g.T.Span.range l.range).high (map g.T.Span.range (drop l.i l.others))
      ≡ passed (g.T.Span.range l.range).high (map g.T.Span.range l.others);
}
