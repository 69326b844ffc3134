-- Addresses and prefixes, as numbers.
use Rattle.std.specs.Prelude.{◌≡◌, ℕ, ◌+◌, ◌-◌, ◌*◌, ◌^◌, ◌<◌, ◌≤◌, Bool, true, false, ◌&&◌, nat_le, nat_lt}
use Rattle.acl_packet.specs.declared.addresses.Families.{Families}
use Rattle.acl_packet.specs.declared.addresses.Families.TheVariants.{Inet, Inet6, Mixed}
use Rattle.acl_packet.specs.declared.addresses.Family.{Family}
use Rattle.acl_packet.specs.declared.addresses.Family.TheVariants.{V4, V6}
use Rattle.acl_packet.specs.declared.addresses.Prefix.{Prefix}

-- The bits of an address: RFC 791 section 2.3, RFC 4291 section 2.
abbrev pub width_of : Family → ℕ
width_of V4 = 32
width_of V6 = 128

-- The highest address of a family, as a number.
abbrev pub top_address : Family → ℕ
top_address f = 2 ^ width_of f - 1

-- Two families are the same one.
abbrev pub same_family : Family → Family → Bool
same_family V4 V4 = true
same_family V4 V6 = false
same_family V6 V4 = false
same_family V6 V6 = true

-- The family is one of those that a filter is for.
abbrev pub covers : Families → Family → Bool
covers Inet family = same_family V4 family
covers Inet6 family = same_family V6 family
covers Mixed family = true

-- The family of a filter that has one; IPv4 for a filter of both.
abbrev pub first_family : Families → Family
first_family Inet = V4
first_family Inet6 = V6
first_family Mixed = V4

-- How many addresses a prefix has: one for each value of the bits behind its length.
abbrev pub size_of : Prefix → ℕ
size_of p = 2 ^ (width_of p.family - p.len)

-- A prefix is of its family (RFC 4632 section 3.1, RFC 4291 section 2.3): the length is within the
-- address, the first address is an address, and its bits behind the length are 0, so that it is a
-- multiple of the size.
pub record IsPrefix (p : Prefix) : Type 0 where
  pub len_fits : p.len ≤ width_of p.family
  pub first_fits : p.first < 2 ^ width_of p.family
  pub aligned : (n : ℕ) × (p.first ≡ n * size_of p)

-- A prefix of that family.
abbrev pub IsPrefixOf : Family → Prefix → Type 0
IsPrefixOf family prefix = (prefix.family ≡ family) × IsPrefix prefix

-- The addresses of a prefix are its first one and those that follow, as many as its size.
abbrev pub has_address : Prefix → ℕ → Bool
has_address p a = nat_le p.first a && nat_lt a (p.first + size_of p)

-- The prefix of all addresses of a family has length 0.
abbrev pub everywhere : Family → Prefix
everywhere family = record { family = family; first = 0; len = 0 }
