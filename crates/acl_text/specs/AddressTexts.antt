-- Addresses of both families and prefixes as text.
use Rattle.std.specs.Prelude.{◌≡◌, ℕ, ◌-◌, ◌*◌, ◌/◌, ◌^◌, ◌≤◌, ◌&&◌, ◌⊎◌, if◌then◌else◌, List, ◌∷◌, ◌++◌, Option, Some, None, decimal}
use Rattle.std.specs.Str.{bytes_eq}
use Rattle.std.specs.Option.{option_map_or}
use Rattle.acl_packet.specs.declared.addresses.Family.{Family}
use Rattle.acl_packet.specs.declared.addresses.Family.TheVariants.{V4, V6}
use Rattle.acl_packet.specs.declared.addresses.Prefix.{Prefix}
use Rattle.acl_packet.specs.Addresses.{same_family, width_of}
use Rattle.acl_text.specs.Cuts.{cut_at, has_byte}
use Rattle.acl_text.specs.OptionSteps.{◌>>=◌}
use Rattle.acl_packet.specs.Decimals.{IsNumber, number_in}
use Rattle.acl_text.specs.Ipv4.{IsIpv4, ipv4_in, ipv4_text}
use Rattle.acl_text.specs.Ipv6.{IsIpv6, ipv6_in, ipv6_text}

-- The text is one of the address's.
abbrev pub IsAddressText : Family → List ℕ → ℕ → Type 0
IsAddressText V4 bs n = IsIpv4 bs n
IsAddressText V6 bs n = IsIpv6 bs n

-- The address of the text in one of its spellings.
abbrev pub spelling_in : Family → List ℕ → Option ℕ
spelling_in V4 bs = ipv4_in bs
spelling_in V6 bs = ipv6_in bs

-- The text that is printed for an address.
abbrev pub address_text : Family → ℕ → List ℕ
address_text V4 n = ipv4_text n
address_text V6 n = ipv6_text n

-- The address of the text, where it is the text that is printed.
unfoldable pub address_in : Family → List ℕ → Option ℕ
address_in f bs = do
  n ← spelling_in f bs
  if bytes_eq bs (address_text f n) then Some n else None

-- The block of an address and a length: the bits behind the length are cleared.
abbrev pub block_of : Family → ℕ → ℕ → Prefix
block_of f n len =
    record { family = f; first = n / 2 ^ (width_of f - len) * 2 ^ (width_of f - len); len = len }

-- The text is an address, which is of the full length, or an address, `/` and a length.
pub record IsPrefixText (bs : List ℕ) (p : Prefix) : Type 0 where
  pub address : List ℕ
  pub value : ℕ
  pub address_is : IsAddressText p.family address value
  pub length_is : ((bs ≡ address) × (p.len ≡ width_of p.family))
      ⊎ ((word : List ℕ) × (bs ≡ address ++ 47 ∷ word) × IsNumber word p.len
      × (p.len ≤ width_of p.family))
  pub cleared : p ≡ block_of p.family value p.len

-- A word with `:` is no IPv4 address, and one without it no IPv6 address.
abbrev pub family_in : List ℕ → Family
family_in bs = if has_byte 58 bs then V6 else V4

-- The block of an address without a length.
unfoldable pub full_in : Family → List ℕ → Option Prefix
full_in f bs = do
  n ← spelling_in f bs
  Some (block_of f n (width_of f))

-- The block of an address and the word behind its `/`.
unfoldable pub block_in : Family → List ℕ → List ℕ → Option Prefix
block_in f bs word = do
  n ← spelling_in f bs
  len ← number_in (width_of f) word
  Some (block_of f n len)

-- The prefix of the text, where it is one's.
unfoldable pub prefix_in : List ℕ → Option Prefix
prefix_in bs =
    option_map_or {U = Option Prefix} (λ p. block_in (family_in p.0) p.0 p.1) (cut_at 47 bs)
    (full_in (family_in bs) bs)

-- The text that is printed for a prefix.
unfoldable pub prefix_text : Prefix → List ℕ
prefix_text p = address_text p.family p.first ++ 47 ∷ decimal p.len

-- The prefix of the text, where it is of the family and the text is the one that is printed.
unfoldable pub spelled_prefix_in : Family → List ℕ → Option Prefix
spelled_prefix_in f bs = do
  p ← prefix_in bs
  if same_family f p.family && bytes_eq bs (prefix_text p) then Some p else None

-- The text of the bits behind an IPv4 prefix's length, as an address (Cisco IOS wildcard masks).
unfoldable pub wildcard_text : ℕ → List ℕ
wildcard_text len = ipv4_text (2 ^ (32 - len) - 1)
