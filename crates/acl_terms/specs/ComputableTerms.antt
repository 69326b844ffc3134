-- The sets of a term as values that can be computed with. What is to be believed are the facts of Sets: a term has one
-- such set for each, so a reader needs these values only where he states a function of a policy.
use Rattle.std.specs.Prelude.{◌≡◌, ℕ, List, [], ◌∷◌, None, map, flat_map, option_to_list, Option}
use Rattle.acl_packet.specs.declared.addresses.Family.{Family}
use Rattle.acl_packet.specs.declared.addresses.Family.TheVariants.{V4, V6}
use Rattle.acl_packet.specs.declared.packet_fields.Field.{Field}
use Rattle.acl_packet.specs.declared.packet_fields.Field.TheVariants.{Protocol, SourcePort, DestinationPort, IcmpType, IcmpCode}
use Rattle.acl_packet.specs.Addresses.{top_address}
use Rattle.acl_packet.specs.NumberWords.{protocol_in}
use Rattle.acl_packet.specs.Packets.{top_of}
use Rattle.acl_sets.specs.declared.sets.Range.{Range}
use Rattle.acl_sets.specs.Ranges.{Numbers}
use Rattle.acl_sets.specs.ComputableSets.{cut_all, put_all}
use Rattle.acl_policy.specs.RawTerms.{RawTerm}
use Rattle.acl_words.specs.declared.word_lists.Word.{Word}
use Rattle.acl_policy.specs.Conditions.{IsRawTerm}
use Rattle.acl_naming.specs.ComputableReach.{addresses_reached, ports_reached}
use Rattle.acl_naming.specs.Definitions.{Naming}
use Rattle.acl_naming.specs.PortLaws.{PortsAreSome}
use Rattle.acl_naming.specs.Ports.{top_port}
use Rattle.acl_terms.specs.declared.terms.Term.{Term}
use Rattle.acl_terms.specs.Matching.{code_in, icmp_family, protocols_of, type_in, words_of}
use Rattle.acl_terms.specs.Resolved.{IsResolved}
use Rattle.acl_terms.specs.Sets.{Sets}
use Rattle.acl_terms.specs.SetSteps.{single}
use Rattle.acl_terms.specs.Slips.{slip_of}

-- The ranges of all items of a list, as one set; and all numbers up to the top where there is no item.
abbrev pub ranges_of : {A : Type 0} → (A → List Range) → List A → List Range
ranges_of f xs = put_all (flat_map f xs) []

abbrev pub ranges_or_all : {A : Type 0} → ℕ → (A → List Range) → List A → List Range
ranges_or_all top f [] = record { low = 0; high = top } ∷ []
ranges_or_all top f (x ∷ xs) = ranges_of f (x ∷ xs)

abbrev pub word_addresses : Naming → Family → Word → List Range
word_addresses n f w = addresses_reached n.networks f w.text

abbrev pub address_set : Naming → Family → List Word → List Word → Numbers
address_set n f words excludes = record {
  top = top_address f;
  ranges = cut_all (ranges_of (word_addresses n f) excludes)
      (ranges_or_all (top_address f) (word_addresses n f) words);
}

abbrev pub named_address_set : Naming → Family → List Word → Numbers
named_address_set n f words = record {
  top = top_address f;
  ranges = ranges_or_all (top_address f) (word_addresses n f) words;
}

abbrev pub word_ports : Naming → List ℕ → Word → List Range
word_ports n protos w = flat_map (λ q. ports_reached n.services q w.text) protos

abbrev pub port_set : Naming → List ℕ → List Word → Numbers
port_set n protos words = record {
  top = top_port;
  ranges = ranges_or_all top_port (word_ports n protos) words;
}

abbrev pub word_numbers : (Word → Option ℕ) → Word → List Range
word_numbers number w = map single (option_to_list (number w))

-- The numbers that a word of a field names.
abbrev pub field_numbers : Naming → RawTerm → Field → Word → List Range
field_numbers n t Protocol w = word_numbers (λ v. protocol_in v.text) w
field_numbers n t SourcePort w = word_ports n (protocols_of t.protocols) w
field_numbers n t DestinationPort w = word_ports n (protocols_of t.protocols) w
field_numbers n t IcmpType w = word_numbers (λ v. type_in (icmp_family (protocols_of t.protocols)) v.text) w
field_numbers n t IcmpCode w = word_numbers (λ v. code_in v.text) w

abbrev pub number_set : Naming → RawTerm → Field → Numbers
number_set n t field = record {
  top = top_of field;
  ranges = ranges_or_all (top_of field) (field_numbers n t field) (words_of field t);
}

unfoldable pub sets_of : Naming → RawTerm → Sets
sets_of n t = record {
  src4 = address_set n V4 t.sources t.source_excludes;
  src6 = address_set n V6 t.sources t.source_excludes;
  dst4 = address_set n V4 t.destinations t.destination_excludes;
  dst6 = address_set n V6 t.destinations t.destination_excludes;
  addr4 = named_address_set n V4 t.addresses;
  addr6 = named_address_set n V6 t.addresses;
  numbers = λ field. number_set n t field;
  ports = port_set n (protocols_of t.protocols) t.ports;
}

-- A written term is resolved in one way.
abbrev pub TermsAreOne : Type 0
TermsAreOne = (n : Naming) (raw : RawTerm) (t u : Term) → IsResolved n raw t → IsResolved n raw u
    → t ≡ u

-- A term without a slip is resolved in some way, where a name that reaches ports of a protocol reaches some port.
abbrev pub TermsAreThere : Type 0
TermsAreThere = (n : Naming) (raw : RawTerm) → PortsAreSome n.services → IsRawTerm raw
    → slip_of n raw ≡ None → (t : Term) × IsResolved n raw t
