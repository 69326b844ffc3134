use Rattle.std.proofs.Common.{◌≡◌, ◌++◌, drop, map}
use Rattle.acl_dead.specs.SideSteps.{side_of}
use Rattle.acl_dead.proofs.blocking.push_sides.Given as goal

abbrev pub invariant-loop-sides : goal.invariant-loop-sides
invariant-loop-sides l =
    map (λ s. s.now.ranges) l.out.items ++ map (λ b. (side_of l.coordinate b).ranges) (drop l.sides-index l.boxes)
    ≡ map (λ s. s.now.ranges) l.fn.out.items ++ map (λ b. (side_of l.coordinate b).ranges) l.boxes
