use Rattle.std.proofs.Common.{◌++◌, List, map, ap, ◌∙◌}
use Rattle.acl_sets.specs.declared.sets.Range.{Range}
use Rattle.term_boxes.specs.declared.boxes.PacketBox.{PacketBox}
use Rattle.acl_dead.specs.SideSteps.{side_of}
use Rattle.acl_dead.proofs.ListSteps.{left_all, left_more, map_flat}
use Rattle.acl_dead.proofs.blocking.Space.sides_along.Goals as goal

pub returns : goal.returns
returns c =
    left_all (λ (bs : List PacketBox). map (λ (b : PacketBox). (side_of c.args.coordinate b).ranges) bs) _ c.deref-boxes-items.result.now
    c.args.self.now.boxes.items c.loop-boxes.boxes-index c.loop-boxes-test.false c.deref-boxes-items.ensures.value c.loop-boxes.invariant
    ∙ map_flat (λ (b : PacketBox). (side_of c.args.coordinate b).ranges) c.args.self.now.boxes.items

pub loop-boxes-preserved : goal.loop-boxes-preserved
loop-boxes-preserved c =
    let g : List PacketBox → List (List Range) = λ bs. map (λ (b : PacketBox). (side_of c.args.coordinate b).ranges) bs in
    left_more g _ _ _ c.deref-boxes-items.result.now c.loop-boxes.boxes-index c.boxes-item.result c.loop-boxes-test.true c.boxes-item.is
    (c.in_ok-push_sides.ensures ∙ ap (λ bs. map (λ s. s.now.ranges) c.loop-boxes.out.items ++ g bs) c.as_slice.ensures) c.loop-boxes.invariant
