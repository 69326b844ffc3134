-- Documents of nftables rules, and which of them are valid.
-- Source: nft(8), "TABLES", "CHAINS", "RULES", "SETS", "PAYLOAD EXPRESSIONS" (for ICMP, "ICMP
-- HEADER EXPRESSION"), "META EXPRESSIONS".
use Rattle.std.specs.Prelude.{◌≡◌, ℕ, ◌^◌, ◌<◌, ◌≤◌, Bool, true, false, ◌&&◌, ◌||◌, nat_eq, nat_le, nat_lt, ℤ, pos, negsuc, List, [], ◌∷◌, ◌++◌, codes, Option, IfSome, is_none}
use Rattle.std.specs.Fmt.{decimal}
use Rattle.std.specs.List.{AllByRecursion, IsDistinct}
use Rattle.acl_packet.specs.declared.addresses.Families.{Families}
use Rattle.acl_packet.specs.declared.addresses.Prefix.{Prefix}
use Rattle.acl_packet.specs.declared.filtering.Verdict.{Verdict}
use Rattle.acl_packet.specs.declared.filtering.Verdict.TheVariants.{Reset, Left}
use Rattle.acl_packet.specs.Addresses.{covers, has_address}
use Rattle.acl_packet.specs.Packets.{icmp_of}
use Rattle.acl_text.specs.Names.{is_safe_text}
use Rattle.acl_rows.specs.Documents.{IsDocumentOf}
use Rattle.acl_rows.specs.PortRanges.{IsPortRange}
use Rattle.acl_rows.specs.RuleParts.{IsAddresses, has_port_proto, is_empty, is_proto}
use Rattle.nft_lang.specs.declared.documents.Section.{Section}
use Rattle.nft_lang.specs.declared.documents.Item.{Item}
use Rattle.nft_lang.specs.declared.documents.Item.TheVariants.{Remark, Rule as ARule}
use Rattle.nft_lang.specs.declared.documents.Rule.{Rule}

-- ---- sets

-- Two elements overlap where they have a value in common: an address, a port, the type or the code. One
-- of two such prefixes has the first address of the other.
abbrev pub prefixes_overlap : Prefix → Prefix → Bool
prefixes_overlap p q = has_address p q.first || has_address q p.first

abbrev pub ports_overlap : ℕ × ℕ → ℕ × ℕ → Bool
ports_overlap a b = nat_le a.0 b.1 && nat_le b.0 a.1

-- A set has elements of its kind, no two of which overlap, so that each value stands there once. One
-- without elements is not written.
pub record IsSet {A : Type 0} (IsElement : A → Type 0) (overlap : A → A → Bool) (elements : List A)
    : Type 0 where
  pub each : AllByRecursion IsElement elements
  pub apart : IsDistinct overlap elements

-- Type 255 has no number here. A code has 8 bits.
abbrev pub IsType : ℕ → Type 0
IsType number = number ≤ 254

abbrev pub IsCode : ℕ → Type 0
IsCode number = number ≤ 255

-- ---- rules

-- Ports belong to TCP, UDP or SCTP, types to the family's ICMP, codes to one type, flags and `tcp reset`
-- to TCP.
abbrev pub ports_fit : Rule → Bool
ports_fit r = is_empty r.sports && is_empty r.dports || has_port_proto r.proto

abbrev pub types_fit : Rule → Bool
types_fit r = is_empty r.itypes || is_proto r.proto (icmp_of r.family)

abbrev pub is_single : {A : Type 0} → List A → Bool
is_single (x ∷ []) = true
is_single xs = false

abbrev pub codes_fit : Rule → Bool
codes_fit r = is_empty r.icodes || is_single r.itypes

abbrev pub icmp_fits : Rule → Bool
icmp_fits r = types_fit r && codes_fit r

abbrev pub flags_fit : Rule → Bool
flags_fit r = is_none r.flags || is_proto r.proto 6

-- A rule decides; no verdict of nftables leaves a packet undecided.
abbrev pub verdict_fits : Option ℕ → Verdict → Bool
verdict_fits proto Reset = is_proto proto 6
verdict_fits proto Left = false
verdict_fits proto verdict = true

abbrev pub parts_fit : Rule → Bool
parts_fit r = ports_fit r && icmp_fits r && (flags_fit r && verdict_fits r.proto r.verdict)

-- A rule of a table of the families. Protocol 0 has no number here.
pub record IsRule (families : Families) (r : Rule) : Type 0 where
  pub family : covers families r.family ≡ true
  pub protocol : IfSome r.proto (λ n. (1 ≤ n) × (n ≤ 255))
  pub sources : IsSet (IsAddresses r.family) prefixes_overlap r.src
  pub destinations : IsSet (IsAddresses r.family) prefixes_overlap r.dst
  pub source_ports : IsSet IsPortRange ports_overlap r.sports
  pub destination_ports : IsSet IsPortRange ports_overlap r.dports
  pub icmp_types : IsSet IsType nat_eq r.itypes
  pub icmp_codes : IsSet IsCode nat_eq r.icodes
  pub fit : parts_fit r ≡ true

abbrev pub IsItem : Families → Item → Type 0
IsItem families (Remark text) = is_safe_text text ≡ true
IsItem families (ARule r) = IsRule families r

-- ---- sections

-- A priority has 32 bits with its sign, from -2^31 to 2^31 - 1.
abbrev pub fits_i32 : ℤ → Bool
fits_i32 (pos n) = nat_lt n (2 ^ 31)
fits_i32 (negsuc n) = nat_lt n (2 ^ 31)

pub record IsSection (s : Section) : Type 0 where
  pub number : s.number < 2 ^ 32
  pub priority : fits_i32 s.priority ≡ true
  pub items : AllByRecursion (IsItem s.families) s.items

-- The name of a table has its number in decimal.
abbrev pub table_name : ℕ → List ℕ
table_name number = codes "aclgen_" ++ decimal number

-- The names that a section takes: the one of its table.
abbrev pub table_names : Section → List (List ℕ)
table_names s = table_name s.number ∷ []

-- A document is its sections, no two of whose tables have the same name.
abbrev pub IsDocument : List Section → Type 0
IsDocument doc = IsDocumentOf IsSection table_names doc
