-- Documents of Junos firewall filters, and which of them are valid.
-- Source: Juniper, Routing Policies, Firewall Filters, and Traffic Policers User Guide, "Firewall
-- Filter Match Conditions for IPv4 Traffic", "Firewall Filter Match Conditions for IPv6 Traffic" and
-- "Firewall Filter Terminating Actions".
use Rattle.std.specs.Prelude.{◌≡◌, ℕ, ◌<◌, ◌≤◌, Bool, true, false, not, ◌&&◌, ◌||◌, ◌==◌, List, [], ◌∷◌, ◌++◌, length, map, codes, IfSome, None, is_none}
use Rattle.std.specs.List.{list_all, AllByRecursion, IsDistinct}
use Rattle.std.specs.Str.{bytes_eq}
use Rattle.acl_packet.specs.declared.addresses.Family.{Family}
use Rattle.acl_packet.specs.declared.addresses.Family.TheVariants.{V4, V6}
use Rattle.acl_packet.specs.declared.filtering.Verdict.{Verdict}
use Rattle.acl_packet.specs.declared.filtering.Verdict.TheVariants.{Reset, Left}
use Rattle.acl_packet.specs.Packets.{icmp_of}
use Rattle.acl_text.specs.Names.{is_name, is_filter_name, is_safe_text}
use Rattle.acl_rows.specs.Documents.{IsDocumentOf}
use Rattle.acl_rows.specs.PortRanges.{IsPortRange}
use Rattle.acl_rows.specs.RuleParts.{IsAddresses, is_empty}
use Rattle.junos_lang.specs.declared.documents.Section.{Section}
use Rattle.junos_lang.specs.declared.documents.JTerm.{JTerm}

-- The term that has nothing but a name and a verdict.
abbrev pub bare_term : List ℕ → Verdict → JTerm
bare_term name verdict = record {
  note = None;
  name = name;
  src = [];
  dst = [];
  protos = [];
  sports = [];
  dports = [];
  itypes = [];
  icodes = [];
  test = None;
  syslog = false;
  verdict = verdict;
}

-- The list has that one number.
abbrev pub is_alone : List ℕ → ℕ → Bool
is_alone [] number = false
is_alone (n ∷ []) number = n == number
is_alone (n ∷ m ∷ numbers) number = false

-- Protocols are named, and all of them are TCP or UDP.
abbrev pub are_tcp_or_udp : List ℕ → Bool
are_tcp_or_udp protos = not (is_empty protos) && list_all (λ n. n == 6 || n == 17) protos

-- Ports belong to TCP and UDP, types to the family's ICMP alone, codes to one type, a test of flags
-- and a reset to TCP alone. No term leaves a packet to what stands behind the filter.
abbrev pub ports_fit : JTerm → Bool
ports_fit t = is_empty t.sports && is_empty t.dports || are_tcp_or_udp t.protos

abbrev pub types_fit : Family → JTerm → Bool
types_fit family t = is_empty t.itypes || is_alone t.protos (icmp_of family)

abbrev pub codes_fit : JTerm → Bool
codes_fit t = is_empty t.icodes || length t.itypes == 1

abbrev pub test_fits : JTerm → Bool
test_fits t = is_none t.test || is_alone t.protos 6

abbrev pub verdict_fits : Verdict → List ℕ → Bool
verdict_fits Reset protos = is_alone protos 6
verdict_fits Left protos = false
verdict_fits verdict protos = true

abbrev pub parts_fit : Family → JTerm → Bool
parts_fit family t =
    ports_fit t && (types_fit family t && (codes_fit t
    && (test_fits t && verdict_fits t.verdict t.protos)))

-- A term of a filter of the family. The type 255 has no number here.
pub record IsTerm (family : Family) (t : JTerm) : Type 0 where
  pub noted : IfSome t.note (λ text. is_safe_text text ≡ true)
  pub named : is_name t.name ≡ true
  pub sources : AllByRecursion (IsAddresses family) t.src
  pub destinations : AllByRecursion (IsAddresses family) t.dst
  pub protocols : AllByRecursion (λ n. n < 256) t.protos
  pub source_ports : AllByRecursion IsPortRange t.sports
  pub destination_ports : AllByRecursion IsPortRange t.dports
  pub icmp_types : AllByRecursion (λ n. n ≤ 254) t.itypes
  pub icmp_codes : AllByRecursion (λ n. n < 256) t.icodes
  pub fit : parts_fit family t ≡ true

abbrev pub term_names : List JTerm → List (List ℕ)
term_names terms = map (λ t. t.name) terms

-- A filter has a term, and no two of its terms have the same name.
pub record IsSection (s : Section) : Type 0 where
  pub named : is_filter_name s.name ≡ true
  pub has_terms : is_empty s.terms ≡ false
  pub terms : AllByRecursion (IsTerm s.family) s.terms
  pub terms_differ : IsDistinct bytes_eq (term_names s.terms)

abbrev pub family_word : Family → List ℕ
family_word V4 = codes "inet"
family_word V6 = codes "inet6"

-- The name of a section in its document, as its first row has it: the filter's name, a space and the
-- family's word. Filters of two families may have one name.
abbrev pub name_of : Section → List ℕ
name_of s = s.name ++ 32 ∷ family_word s.family

-- The one name that a filter takes in its document.
abbrev pub filter_names : Section → List (List ℕ)
filter_names s = name_of s ∷ []

-- A document is its sections, no two of which have the same family and name.
abbrev pub IsDocument : List Section → Type 0
IsDocument doc = IsDocumentOf IsSection filter_names doc
