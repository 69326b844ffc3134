use Rattle.std.proofs.Common.{◌<◌, length, List, subst, arith}
use Rattle.acl_packet.specs.declared.addresses.Family.TheVariants.{V4, V6}
use Rattle.acl_naming.specs.declared.naming_items.Item.{Item}
use Rattle.acl_naming.specs.declared.reaching.Wanted.TheVariants.{Addresses}
use Rattle.acl_naming.specs.LookupSteps.{Collects, any_item}
use Rattle.acl_naming.proofs.ReachLaws.{gather_first, gather_more}
use Rattle.acl_naming.proofs.reaching.push_networks.Goals as goal

pub loop-place-init : goal.loop-place-init
loop-place-init c =
    let base = c.args.table.now in
    let i = c.args.index in
    let v4 = c.push_blocks.new.v4.items in
    let v6 = c.push_blocks.new.v6.items in (
      gather_first base i (Addresses V4) c.args.v4.now.items v4
          (subst (λ (items : List Item). Collects (Addresses V4) (any_item items) c.args.v4.now.items v4) c.items_at.ensures c.in_ok-push_blocks.ensures.v4),
      gather_first base i (Addresses V6) c.args.v6.now.items v6
          (subst (λ (items : List Item). Collects (Addresses V6) (any_item items) c.args.v6.now.items v6) c.items_at.ensures c.in_ok-push_blocks.ensures.v6),
    )

pub loop-place-preserved : goal.loop-place-preserved
loop-place-preserved c =
    let base = c.args.table.now in
    let places = c.args.places.now in
    let k = c.loop-place.place-index in
    let within : k < length places = omega arith in
    let v4 = c.push_blocks-in-loop-place.new.v4.items in
    let v6 = c.push_blocks-in-loop-place.new.v6.items in (
      gather_more base c.args.index k places (Addresses V4) c.args.v4.now.items c.loop-place.v4.items v4 within c.loop-place.invariant.0
          (subst (λ (items : List Item). Collects (Addresses V4) (any_item items) c.loop-place.v4.items v4) c.items_at-in-loop-place.ensures
          c.in_ok-push_blocks-2.ensures.v4),
      gather_more base c.args.index k places (Addresses V6) c.args.v6.now.items c.loop-place.v6.items v6 within c.loop-place.invariant.1
          (subst (λ (items : List Item). Collects (Addresses V6) (any_item items) c.loop-place.v6.items v6) c.items_at-in-loop-place.ensures
          c.in_ok-push_blocks-2.ensures.v6),
    )
