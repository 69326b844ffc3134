-- What a sound filter is: its data are such as a target of its kind has, and each rule is one that
-- its platform can be asked to say. Generators take sound filters alone.
use Rattle.std.specs.Prelude.{◌≡◌, ◌≢◌, ℕ, ◌++◌, Bool, true, false, not, ◌&&◌, ◌==◌, List, [], ◌∷◌, ◌⊎◌, codes}
use Rattle.std.specs.List.{AllByRecursion}
use Rattle.acl_packet.specs.declared.addresses.Families.{Families}
use Rattle.acl_packet.specs.declared.addresses.Family.{Family}
use Rattle.acl_packet.specs.declared.addresses.Family.TheVariants.{V4, V6}
use Rattle.acl_packet.specs.declared.addresses.Prefix.{Prefix}
use Rattle.acl_packet.specs.declared.packet_fields.Field.{Field}
use Rattle.acl_packet.specs.declared.filtering.Verdict.{Verdict}
use Rattle.acl_packet.specs.declared.filtering.Verdict.TheVariants.{Accept, Deny, Reset, Left}
use Rattle.acl_packet.specs.Addresses.{covers}
use Rattle.acl_packet.specs.Packets.{has_field, is_extension_header, top_of}
use Rattle.acl_text.specs.Names.{is_name}
use Rattle.acl_text.specs.Notes.{is_note}
use Rattle.acl_sets.specs.ComputableSets.{is_all}
use Rattle.acl_sets.specs.LeastLists.{IsLeastList}
use Rattle.acl_packet.specs.AddressLists.{any_has}
use Rattle.acl_sets.specs.OneNumber.{IsOneNumber}
use Rattle.acl_sets.specs.Ranges.{holds, IsNormal, Numbers, Only}
use Rattle.acl_target.specs.declared.targets.Kind.{Kind}
use Rattle.acl_target.specs.declared.targets.Kind.TheVariants.{Cisco, Juniper, Iptables, Nftables}
use Rattle.acl_target.specs.declared.targets.Target.{Target}
use Rattle.acl_target.specs.TargetData.{IsTarget}
use Rattle.acl_platform.specs.declared.filters.Filter.{Filter}
use Rattle.acl_platform.specs.declared.rules.Rule.{Rule}
use Rattle.acl_platform.specs.declared.rules.Test.{Test}
use Rattle.acl_platform.specs.declared.rules.Test.TheVariants.{Plain, AckOrRst, SynNotAck, Rst, State}
use Rattle.acl_platform.specs.Rules.{set_of}

-- A set with a top and a number, in normal form.
pub record IsFull (top : ℕ) (s : Numbers) : Type 0 where
  pub top_is : s.top ≡ top
  pub normal : IsNormal 0 top s.ranges
  pub some : s.ranges ≢ []

-- A list of prefixes that is not empty, and the least one of its addresses.
pub record IsFullList (family : Family) (prefixes : List Prefix) : Type 0 where
  pub least : IsLeastList family (any_has prefixes) prefixes
  pub some : prefixes ≢ []

-- The protocols that a rule may name: not 0, not the ICMP of the other family, and in IPv6 no
-- extension header.
abbrev pub is_named_protocol : Family → ℕ → Bool
is_named_protocol V4 n = not (n == 0) && not (n == 58)
is_named_protocol V6 n = not (is_extension_header n) && not (n == 1)

abbrev pub is_tcp : ℕ → Bool
is_tcp n = n == 6

-- A test of TCP's flags.
abbrev pub tests_flags : Test → Bool
tests_flags Plain = false
tests_flags AckOrRst = true
tests_flags SynNotAck = true
tests_flags Rst = true
tests_flags State = false

-- The filters of a host know connections, those of a device do not. nftables follows connections
-- always, so that no rule of it asks for ACK or RST.
abbrev pub has_test : Kind → Test → Bool
has_test Cisco State = false
has_test Cisco test = true
has_test Juniper State = false
has_test Juniper test = true
has_test Iptables test = true
has_test Nftables AckOrRst = false
has_test Nftables test = true

-- A rule decides; an access list of Cisco IOS permits or denies, and answers nothing.
abbrev pub has_verdict : Kind → Verdict → Bool
has_verdict Cisco Accept = true
has_verdict Cisco Deny = true
has_verdict Cisco verdict = false
has_verdict Juniper Left = false
has_verdict Juniper verdict = true
has_verdict Iptables Left = false
has_verdict Iptables verdict = true
has_verdict Nftables Left = false
has_verdict Nftables verdict = true

-- What may follow the name of its term in a rule's name: the side on which an address is asked for, then the side of a
-- port, then the protocol of a rule that has a part of the term's.
abbrev pub address_suffixes : List (List ℕ)
address_suffixes = [] ∷ codes "-src" ∷ codes "-dst" ∷ []

abbrev pub port_suffixes : List (List ℕ)
port_suffixes = [] ∷ codes "-sport" ∷ codes "-dport" ∷ []

abbrev pub protocol_suffixes : List (List ℕ)
protocol_suffixes = [] ∷ codes "-tcp" ∷ codes "-udp" ∷ []

-- The text is one of the list.
abbrev pub IsOneOf : List ℕ → List (List ℕ) → Type 0
IsOneOf text [] = ⊥
IsOneOf text (t ∷ ts) = (text ≡ t) ⊎ IsOneOf text ts

abbrev pub IsRuleName : List ℕ → Type 0
IsRuleName name = (term address port protocol : List ℕ) × (is_name term ≡ true)
    × IsOneOf address address_suffixes × IsOneOf port port_suffixes
    × IsOneOf protocol protocol_suffixes × (name ≡ term ++ (address ++ (port ++ protocol)))

-- Where numbers of a field are named, all protocols have the field: ports belong to TCP, UDP and SCTP,
-- types and codes to the family's ICMP. Codes belong to one type, flags and resets to TCP. A type that is
-- named is below 255, so that a document can write it on each platform.
pub record IsSoundRule (kind : Kind) (families : Families) (r : Rule) : Type 0 where
  pub family : covers families r.family ≡ true
  pub name : IsRuleName r.name
  pub note : is_note r.note ≡ true
  pub sources : IsFullList r.family r.src
  pub destinations : IsFullList r.family r.dst
  pub numbers : (field : Field) → IsFull (top_of field) (set_of field r)
  pub numbers_fit : (field : Field) → is_all (set_of field r) ≡ false → Only (has_field r.family field) r.protos
  pub protocols_named : is_all r.protos ≡ false → Only (is_named_protocol r.family) r.protos
  pub types_named : is_all r.itypes ≡ false → holds r.itypes.ranges 255 ≡ false
  pub codes_named : is_all r.icodes ≡ false → IsOneNumber r.itypes
  pub flags_fit : tests_flags r.test ≡ true → Only is_tcp r.protos
  pub reset_fits : r.verdict ≡ Reset → Only is_tcp r.protos
  pub test_known : has_test kind r.test ≡ true
  pub verdict_known : has_verdict kind r.verdict ≡ true

-- The target that a filter's data would be, where it follows connections or does not.
abbrev pub target_of : Bool → Filter → Target
target_of stateful f = record {
  place = f.place;
  kind = f.kind;
  name = f.name;
  families = f.families;
  hook = f.hook;
  stateful = stateful;
  ending = f.ending;
  priority = f.priority;
  verbose = f.verbose;
  number = f.number;
}

pub record IsSound (f : Filter) : Type 0 where
  pub target : (stateful : Bool) × IsTarget (target_of stateful f)
  pub rules : AllByRecursion (IsSoundRule f.kind f.families) f.rules
