use Rattle.std.proofs.Common.{take}
use Rattle.acl_packet.specs.declared.addresses.Family.TheVariants.{V4, V6}
use Rattle.acl_naming.specs.declared.reaching.Wanted.TheVariants.{Addresses}
use Rattle.acl_naming.specs.LookupSteps.{Collects, any_item}
use Rattle.acl_naming.proofs.reaching.push_blocks.Given as goal

abbrev pub invariant-loop-item : goal.invariant-loop-item
invariant-loop-item l =
    Collects (Addresses V4) (any_item (take l.item-index l.items)) l.initial.v4.items l.v4.items
    × Collects (Addresses V6) (any_item (take l.item-index l.items)) l.initial.v6.items l.v6.items
