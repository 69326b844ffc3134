use Rattle.std.proofs.Common.{◌≡◌, ℕ, ◌++◌, length, map}
use Rattle.acl_sets.specs.Ranges.{IsNormal}
use Rattle.acl_sets.proofs.CutRuns.{cuts}
use Rattle.acl_sets.proofs.sweeps.cut.Given as goal

abbrev pub invariant-loop-rest : goal.invariant-loop-rest
invariant-loop-rest g l = record {
  put : (top most : ℕ) → IsNormal 0 top (map g.T.Span.range l.ranges) → IsNormal 0 most (map g.T.Span.range l.others)
      → map g.T.Span.range l.out.items ++ cuts (map g.T.Span.range l.left) (map g.T.Span.range l.rest)
      ≡ cuts (map g.T.Span.range l.ranges) (map g.T.Span.range l.others);
  left : (top : ℕ) → IsNormal 0 top (map g.T.Span.range l.ranges) → IsNormal 0 top (map g.T.Span.range l.left);
  rest : (most : ℕ) → IsNormal 0 most (map g.T.Span.range l.others) → IsNormal 0 most (map g.T.Span.range l.rest);
}

abbrev pub decreases-loop-rest : goal.decreases-loop-rest
decreases-loop-rest g l = length l.left
