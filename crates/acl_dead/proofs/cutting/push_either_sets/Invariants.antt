use Rattle.std.proofs.Common.{◌≡◌, ◌++◌, drop, flat_map, map}
use Rattle.acl_dead.specs.CoordinateSteps.{ranges_of, either_along}
use Rattle.acl_dead.proofs.cutting.push_either_sets.Given as goal

abbrev pub invariant-loop-term : goal.invariant-loop-term
invariant-loop-term l =
    map (λ s. s.now.ranges) l.out.items
    ++ flat_map (λ t. ranges_of (either_along l.coordinate l.family t.now)) (drop l.term-index l.terms)
    ≡ map (λ s. s.now.ranges) l.fn.out.items
    ++ flat_map (λ t. ranges_of (either_along l.coordinate l.family t.now)) l.terms
