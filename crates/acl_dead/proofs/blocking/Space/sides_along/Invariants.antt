use Rattle.std.proofs.Common.{◌≡◌, ◌++◌, drop, flat_map, map}
use Rattle.acl_dead.specs.SideSteps.{side_of}
use Rattle.acl_dead.proofs.blocking.Space.sides_along.Given as goal

abbrev pub invariant-loop-boxes : goal.invariant-loop-boxes
invariant-loop-boxes l =
    map (λ s. s.now.ranges) l.out.items
    ++ flat_map (λ bs. map (λ b. (side_of l.coordinate b).ranges) bs) (drop l.boxes-index l.boxes-items)
    ≡ flat_map (λ bs. map (λ b. (side_of l.coordinate b).ranges) bs) l.boxes-items
