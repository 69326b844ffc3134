-- Documents of Cisco IOS access lists, and which of them are valid.
-- Sources: Cisco IOS Security Command Reference, "access-list (IP extended)" and "ip access-list";
-- Cisco IOS IPv6 Command Reference, "ipv6 access-list", "permit (IPv6)" and "deny (IPv6)".
use Rattle.std.specs.Prelude.{◌≡◌, ℕ, ◌≤◌, Bool, true, false, ◌&&◌, ◌||◌, List, [], ◌∷◌, ◌++◌, map, codes, Option, Some, IfSome, is_none, is_some}
use Rattle.std.specs.List.{AllByRecursion}
use Rattle.acl_packet.specs.declared.addresses.Family.{Family}
use Rattle.acl_packet.specs.declared.addresses.Family.TheVariants.{V4, V6}
use Rattle.acl_packet.specs.declared.addresses.Families.{Families}
use Rattle.acl_packet.specs.declared.addresses.Families.TheVariants.{Inet, Inet6, Mixed}
use Rattle.acl_packet.specs.Addresses.{IsPrefixOf}
use Rattle.acl_packet.specs.Packets.{icmp_of}
use Rattle.acl_text.specs.Names.{is_filter_name, is_safe_text}
use Rattle.acl_rows.specs.Documents.{IsDocumentOf}
use Rattle.acl_rows.specs.PortRanges.{IsPortRange}
use Rattle.acl_rows.specs.RuleParts.{is_proto}
use Rattle.cisco_lang.specs.declared.documents.Section.{Section}
use Rattle.cisco_lang.specs.declared.documents.AccessList.{AccessList}
use Rattle.cisco_lang.specs.declared.documents.Item.{Item}
use Rattle.cisco_lang.specs.declared.documents.Item.TheVariants.{Remark, Entry as AnEntry}
use Rattle.cisco_lang.specs.declared.documents.Entry.{Entry}
use Rattle.cisco_lang.specs.declared.documents.Flags.{Flags}
use Rattle.cisco_lang.specs.declared.documents.Flags.TheVariants.{SynNotAck}

-- Ports belong to TCP or UDP, a type to the family's ICMP, a code to a type, flags to TCP, and
-- `match-all` to IPv4 lists.
abbrev pub match_all_fits : Family → Option Flags → Bool
match_all_fits V6 (Some SynNotAck) = false
match_all_fits family flags = true

abbrev pub ports_fit : Entry → Bool
ports_fit e = is_none e.sport && is_none e.dport || (is_proto e.proto 6 || is_proto e.proto 17)

abbrev pub type_fits : Family → Entry → Bool
type_fits family e = is_none e.itype || is_proto e.proto (icmp_of family)

abbrev pub code_fits : Entry → Bool
code_fits e = is_none e.icode || is_some e.itype

abbrev pub icmp_fits : Family → Entry → Bool
icmp_fits family e = type_fits family e && code_fits e

abbrev pub flags_fit : Family → Entry → Bool
flags_fit family e = (is_none e.flags || is_proto e.proto 6) && match_all_fits family e.flags

abbrev pub parts_fit : Family → Entry → Bool
parts_fit family e = ports_fit e && (icmp_fits family e && flags_fit family e)

-- An entry of a list of the family. Protocol 0 and type 255 have no number here.
pub record IsEntry (family : Family) (e : Entry) : Type 0 where
  pub protocol : IfSome e.proto (λ n. (1 ≤ n) × (n ≤ 255))
  pub source : IsPrefixOf family e.src
  pub source_ports : IfSome e.sport IsPortRange
  pub destination : IsPrefixOf family e.dst
  pub destination_ports : IfSome e.dport IsPortRange
  pub icmp_type : IfSome e.itype (λ n. n ≤ 254)
  pub icmp_code : IfSome e.icode (λ n. n ≤ 255)
  pub fit : parts_fit family e ≡ true

abbrev pub IsItem : Family → Item → Type 0
IsItem family (Remark text) = is_safe_text text ≡ true
IsItem family (AnEntry e) = IsEntry family e

abbrev pub IsList : AccessList → Type 0
IsList l = AllByRecursion (IsItem l.family) l.items

-- The lists of a section, by family and name. A list of each family stands in a mixed one.
abbrev pub heads_of : Families → List ℕ → List (Family × List ℕ)
heads_of Inet name = (V4, name) ∷ []
heads_of Inet6 name = (V6, name) ∷ []
heads_of Mixed name = (V4, name) ∷ (V6, codes "ipv6-" ++ name) ∷ []

pub record IsSection (s : Section) : Type 0 where
  pub named : is_filter_name s.name ≡ true
  pub heads : map (λ l. (l.family, l.name)) s.lists ≡ heads_of s.families s.name
  pub lists : AllByRecursion IsList s.lists

-- The names of a section's lists, in order.
abbrev pub list_names : Section → List (List ℕ)
list_names s = map (λ l. l.name) s.lists

-- A document is its sections, no two of whose lists have the same name.
abbrev pub IsDocument : List Section → Type 0
IsDocument doc = IsDocumentOf IsSection list_names doc
