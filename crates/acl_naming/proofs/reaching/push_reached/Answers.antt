use Rattle.std.proofs.Common.{◌<◌, length, List, subst, arith}
use Rattle.acl_naming.specs.declared.naming_items.Item.{Item}
use Rattle.acl_naming.specs.LookupSteps.{Collects, any_item}
use Rattle.acl_naming.proofs.ReachLaws.{gather_first, gather_more}
use Rattle.acl_naming.proofs.reaching.push_reached.Goals as goal

pub loop-place-init : goal.loop-place-init
loop-place-init c =
    let base = c.args.table.now in
    let i = c.args.index in
    let w = c.args.wanted in
    let old = c.args.out.now.items in
    let out = c.push_items.new.out.items in
    gather_first base i w old out
    (subst (λ (items : List Item). Collects w (any_item items) old out) c.items_at.ensures c.in_ok-push_items.ensures)

pub loop-place-preserved : goal.loop-place-preserved
loop-place-preserved c =
    let base = c.args.table.now in
    let places = c.args.places.now in
    let k = c.loop-place.place-index in
    let within : k < length places = omega arith in
    let out = c.loop-place.out.items in
    gather_more base c.args.index k places c.args.wanted c.args.out.now.items out c.push_items-in-loop-place.new.out.items within
    c.loop-place.invariant
    (subst (λ (items : List Item). Collects c.args.wanted (any_item items) out c.push_items-in-loop-place.new.out.items) c.items_at-in-loop-place.ensures
    c.in_ok-push_items-2.ensures)
