-- Addresses that lists of prefixes have.
use Rattle.std.specs.Prelude.{ℕ, Bool, List}
use Rattle.std.specs.List.{list_any}
use Rattle.acl_packet.specs.declared.addresses.Prefix.{Prefix}
use Rattle.acl_packet.specs.Addresses.{has_address}

-- One of the prefixes has the address.
abbrev pub any_has : List Prefix → ℕ → Bool
any_has ps a = list_any (λ p. has_address p a) ps
