use Rattle.std.proofs.Common.{◌+◌, ◌<◌, Bool, ◌||◌, List, take, length, ap, sym, ◌∙◌, arith}
use Rattle.std.proofs.lemmas.List.Folds.{list_any_more}
use Rattle.acl_packet.specs.declared.addresses.Family.TheVariants.{V4, V6}
use Rattle.acl_sets.specs.declared.sets.Range.{Range}
use Rattle.acl_naming.specs.declared.naming_items.Item.{Item}
use Rattle.acl_naming.specs.declared.reaching.Wanted.{Wanted}
use Rattle.acl_naming.specs.declared.reaching.Wanted.TheVariants.{Addresses}
use Rattle.acl_naming.specs.LookupSteps.{Collects, any_item}
use Rattle.acl_naming.proofs.ReachLaws.{collects_on}
use Rattle.acl_naming.proofs.reaching.push_blocks.Goals as goal

pub loop-item-preserved : goal.loop-item-preserved
loop-item-preserved c =
    let items = c.args.items.now in
    let i = c.loop-item.item-index in
    let item = c.item-item.result in
    let within : i < length items = omega arith in
    let more : (w : Wanted) (a b d : List Range) → Collects w (any_item (take i items)) a b → Collects w (λ test. test item) b d
    → Collects w (any_item (take (i + 1) items)) a d =
    λ w a b d. collects_on w (any_item (take i items)) (λ test. test item) (any_item (take (i + 1) items)) a b d
    (λ (p : Item → Bool). list_any_more p items i item within ∙ ap (λ (x : Item). any_item (take i items) p || p x) (sym c.item-item.is)) in (
      more (Addresses V4) c.args.v4.now.items c.loop-item.v4.items c.push_block.new.v4.items c.loop-item.invariant.0 c.in_ok-push_block.ensures.v4,
      more (Addresses V6) c.args.v6.now.items c.loop-item.v6.items c.push_block.new.v6.items c.loop-item.invariant.1 c.in_ok-push_block.ensures.v6,
    )
