use Rattle.std.proofs.Common.{◌≡◌, ◌++◌, drop, map}
use Rattle.acl_sets.specs.SweepSteps.{walk, shared_along}
use Rattle.acl_sets.proofs.sweeps.shared.Given as goal

abbrev pub invariant-loop-range : goal.invariant-loop-range
invariant-loop-range g l =
    map g.T.Span.range l.out.items
    ++ walk (λ r qs. shared_along r qs) (map g.T.Span.range (drop l.range-index l.ranges)) (map g.T.Span.range l.rest)
    ≡ walk (λ r qs. shared_along r qs) (map g.T.Span.range l.ranges) (map g.T.Span.range l.others)
