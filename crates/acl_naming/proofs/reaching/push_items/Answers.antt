use Rattle.std.proofs.Common.{◌+◌, ◌<◌, Bool, ◌||◌, take, length, ap, sym, ◌∙◌, arith}
use Rattle.std.proofs.lemmas.List.Folds.{list_any_more}
use Rattle.acl_naming.specs.declared.naming_items.Item.{Item}
use Rattle.acl_naming.specs.LookupSteps.{any_item}
use Rattle.acl_naming.proofs.ReachLaws.{collects_on}
use Rattle.acl_naming.proofs.reaching.push_items.Goals as goal

pub loop-item-preserved : goal.loop-item-preserved
loop-item-preserved c =
    let items = c.args.items.now in
    let i = c.loop-item.item-index in
    let item = c.item-item.result in
    let within : i < length items = omega arith in
    collects_on c.args.wanted (any_item (take i items)) (λ test. test item) (any_item (take (i + 1) items))
    c.args.out.now.items c.loop-item.out.items c.push_item.new.out.items
    (λ (p : Item → Bool). list_any_more p items i item within ∙ ap (λ (x : Item). any_item (take i items) p || p x) (sym c.item-item.is))
    c.loop-item.invariant c.in_ok-push_item.ensures
