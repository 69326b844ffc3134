use Rattle.std.proofs.Common.{take}
use Rattle.acl_naming.specs.LookupSteps.{Collects, any_item}
use Rattle.acl_naming.proofs.reaching.push_items.Given as goal

abbrev pub invariant-loop-item : goal.invariant-loop-item
invariant-loop-item l = Collects l.wanted (any_item (take l.item-index l.items)) l.initial.out.items l.out.items
