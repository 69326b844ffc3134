use Rattle.std.proofs.Common.{◌≡◌, ◌∷◌, drop, map}
use Rattle.acl_sets.specs.SweepSteps.{merged, merged_from}
use Rattle.acl_sets.proofs.sweeps.are_apart.Given as goal

-- Where what is left is apart from the last range and in itself, so are all.
abbrev pub invariant-loop-range : goal.invariant-loop-range
invariant-loop-range g l =
    merged_from (g.T.Span.range l.last) (map g.T.Span.range (drop l.range-index l.rest))
    ≡ g.T.Span.range l.last ∷ map g.T.Span.range (drop l.range-index l.rest)
    → merged (map g.T.Span.range l.ranges) ≡ map g.T.Span.range l.ranges
