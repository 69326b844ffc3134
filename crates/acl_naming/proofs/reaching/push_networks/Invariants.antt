use Rattle.std.proofs.Common.{take, ◌∷◌}
use Rattle.acl_packet.specs.declared.addresses.Family.TheVariants.{V4, V6}
use Rattle.acl_naming.specs.declared.reaching.Wanted.TheVariants.{Addresses}
use Rattle.acl_naming.specs.LookupSteps.{Collects, any_at}
use Rattle.acl_naming.proofs.reaching.push_networks.Given as goal

abbrev pub invariant-loop-place : goal.invariant-loop-place
invariant-loop-place l =
    Collects (Addresses V4) (any_at l.table (l.index ∷ take l.place-index l.places)) l.fn.v4.items l.v4.items
    × Collects (Addresses V6) (any_at l.table (l.index ∷ take l.place-index l.places)) l.fn.v6.items l.v6.items
