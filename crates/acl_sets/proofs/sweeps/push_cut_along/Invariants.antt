use Rattle.std.proofs.Common.{◌≡◌, ◌++◌, drop, map}
use Rattle.acl_sets.specs.SweepSteps.{passed, cut_along}
use Rattle.acl_sets.proofs.sweeps.push_cut_along.Given as goal

abbrev pub invariant-loop-i : goal.invariant-loop-i
invariant-loop-i g l = record {
  put : map g.T.Span.range l.out.items ++ cut_along (g.T.Span.range l.left) (map g.T.Span.range (drop l.i l.others))
      ≡ map g.T.Span.range l.fn.out.items ++ cut_along (g.T.Span.range l.fn.range) (map g.T.Span.range l.others);
  high : (g.T.Span.range l.left).high ≡ (g.T.Span.range l.fn.range).high;
  rest : passed (g.T.Span.range l.fn.range).high (map g.T.Span.range (drop l.i l.others))
      ≡ passed (g.T.Span.range l.fn.range).high (map g.T.Span.range l.others);
}
