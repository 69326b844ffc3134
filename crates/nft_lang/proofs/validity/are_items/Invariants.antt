use Rattle.std.proofs.Common.{◌≡◌, drop}
use Rattle.std.specs.List.{list_all}
use Rattle.nft_lang.specs.ValiditySteps.{is_item}
use Rattle.nft_lang.proofs.validity.are_items.Given as goal

abbrev pub invariant-loop-item : goal.invariant-loop-item
invariant-loop-item l = list_all (is_item l.families) (drop l.item-index l.items) ≡ list_all (is_item l.families) l.items
