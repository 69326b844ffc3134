-- When a term, as it is written, matches a packet. Nothing is computed: names reach numbers by walks, and no set is
-- made.
use Rattle.std.specs.Prelude.{◌≡◌, ℕ, Bool, true, false, ◌==◌, ◌⊎◌, if◌then◌else◌, List, [], ◌∷◌, Option, None, Some, flat_map, option_to_list}
use Rattle.std.specs.List.{list_all}
use Rattle.acl_packet.specs.Decimals.{number_in}
use Rattle.acl_packet.specs.Packets.{foreign_of, number_of}
use Rattle.acl_packet.specs.declared.addresses.Family.{Family}
use Rattle.acl_packet.specs.declared.addresses.Family.TheVariants.{V4, V6}
use Rattle.acl_packet.specs.declared.packet_fields.Field.{Field}
use Rattle.acl_packet.specs.declared.packet_fields.Field.TheVariants.{Protocol, SourcePort, DestinationPort, IcmpType, IcmpCode}
use Rattle.acl_packet.specs.declared.packets.Packet.{Packet}
use Rattle.acl_packet.specs.NumberWords.{protocol_in, icmp_in}
use Rattle.acl_words.specs.declared.word_lists.Word.{Word}
use Rattle.acl_policy.specs.RawTerms.{RawTerm}
use Rattle.acl_naming.specs.Definitions.{Naming}
use Rattle.acl_naming.specs.Reach.{ReachesAddress, ReachesPort}
use Rattle.acl_terms.specs.declared.options.Mode.{Mode}
use Rattle.acl_terms.specs.Options.{option_of, passes}

-- The fact holds for one of the words at least.
abbrev pub AnyOf : {A : Type 0} → (A → Type 0) → List A → Type 0
AnyOf P [] = ⊥
AnyOf P (x ∷ xs) = P x ⊎ AnyOf P xs

-- Where no word is written nothing is asked; else the fact holds for one of them.
abbrev pub Admits : {A : Type 0} → (A → Type 0) → List A → Type 0
Admits P [] = Unit {0}
Admits P (x ∷ xs) = AnyOf P (x ∷ xs)

-- ---- addresses

abbrev pub NamesAddress : Naming → Family → ℕ → Word → Type 0
NamesAddress n f x w = ReachesAddress n.networks w.text f x

-- One of the names reaches the address, where any is written.
abbrev pub IsNamedAddress : Naming → Family → List Word → ℕ → Type 0
IsNamedAddress n f words x = Admits (NamesAddress n f x) words

-- So it is, and none of the excluded names reaches it.
abbrev pub IsAddress : Naming → Family → List Word → List Word → ℕ → Type 0
IsAddress n f words excludes x =
    IsNamedAddress n f words x × (AnyOf (NamesAddress n f x) excludes → ⊥)

-- One of the names reaches the one address or the other, where any is written.
abbrev pub IsEitherAddress : Naming → Family → List Word → ℕ → ℕ → Type 0
IsEitherAddress n f words x y = Admits (λ w. NamesAddress n f x w ⊎ NamesAddress n f y w) words

-- ---- protocols and ports

-- The numbers of the words of `protocol::`.
abbrev pub protocols_of : List Word → List ℕ
protocols_of words = flat_map (λ w. option_to_list (protocol_in w.text)) words

abbrev pub IsProtocol : List Word → ℕ → Type 0
IsProtocol words n = Admits (λ w. protocol_in w.text ≡ Some n) words

-- A packet of a family is not taken for one of the other family's ICMP, though that is named.
abbrev pub IsProtocolIn : Family → List Word → ℕ → Type 0
IsProtocolIn f [] n = Unit {0}
IsProtocolIn f (w ∷ ws) n = IsProtocol (w ∷ ws) n × ((n == foreign_of f) ≡ false)

-- A service has the port with one of the term's protocols. It need not be the packet's: `protocol:: tcp udp` with
-- a service of 80/tcp and 53/udp takes TCP to 53.
abbrev pub NamesPort : Naming → List ℕ → ℕ → Word → Type 0
NamesPort n protos x w = AnyOf (λ q. ReachesPort n.services w.text q x) protos

abbrev pub IsPort : Naming → List ℕ → List Word → ℕ → Type 0
IsPort n protos words x = Admits (NamesPort n protos x) words

abbrev pub IsEitherPort : Naming → List ℕ → List Word → ℕ → ℕ → Type 0
IsEitherPort n protos words x y =
    Admits (λ w. NamesPort n protos x w ⊎ NamesPort n protos y w) words

-- ---- ICMP types and codes

-- Some protocol is named, and each that is passes the test.
abbrev pub only : (ℕ → Bool) → List ℕ → Bool
only test [] = false
only test (q ∷ qs) = list_all test (q ∷ qs)

abbrev pub is_number : ℕ → ℕ → Bool
is_number k n = n == k

-- The family whose ICMP is the one protocol that is named: 1 (RFC 792), or 58 (RFC 4443).
abbrev pub icmp_family : List ℕ → Option Family
icmp_family protos =
    if only (is_number 1) protos then Some V4
    else if only (is_number 58) protos then Some V6
    else None

-- The number of a word of `icmp-type::`, in that family.
abbrev pub type_in : Option Family → List ℕ → Option ℕ
type_in None text = None
type_in (Some f) text = icmp_in f text

-- The numbers of these words.
abbrev pub types_of : Option Family → List Word → List ℕ
types_of family words = flat_map (λ w. option_to_list (type_in family w.text)) words

-- The number of a word of `icmp-code::`: 0 to 255 (RFC 792, RFC 4443 section 2.1).
abbrev pub code_in : List ℕ → Option ℕ
code_in text = number_in 255 text

-- ---- fields

-- The words that name numbers of a field.
abbrev pub words_of : Field → RawTerm → List Word
words_of Protocol t = t.protocols
words_of SourcePort t = t.source_ports
words_of DestinationPort t = t.destination_ports
words_of IcmpType t = t.icmp_types
words_of IcmpCode t = t.icmp_codes

-- A word of the field names the number.
abbrev pub NamesNumber : Naming → RawTerm → Field → ℕ → Word → Type 0
NamesNumber n t Protocol x w = protocol_in w.text ≡ Some x
NamesNumber n t SourcePort x w = NamesPort n (protocols_of t.protocols) x w
NamesNumber n t DestinationPort x w = NamesPort n (protocols_of t.protocols) x w
NamesNumber n t IcmpType x w = type_in (icmp_family (protocols_of t.protocols)) w.text ≡ Some x
NamesNumber n t IcmpCode x w = code_in w.text ≡ Some x

-- One of the field's words does, where any is written.
abbrev pub IsNumber : Naming → RawTerm → Field → ℕ → Type 0
IsNumber n t field x = Admits (NamesNumber n t field x) (words_of field t)

-- So it is for a packet of a family.
abbrev pub IsNumberIn : Naming → RawTerm → Family → Field → ℕ → Type 0
IsNumberIn n t f Protocol x = IsProtocolIn f t.protocols x
IsNumberIn n t f field x = IsNumber n t field x

-- ---- the whole term

abbrev pub is_written : List Word → Bool
is_written [] = false
is_written (w ∷ ws) = true

-- The term matches the packet, where the connections of packets are known or not.
pub record Matches (n : Naming) (t : RawTerm) (mode : Mode) (p : Packet) : Type 0 where
  pub source : IsAddress n p.family t.sources t.source_excludes p.src
  pub destination : IsAddress n p.family t.destinations t.destination_excludes p.dst
  pub either_address : IsEitherAddress n p.family t.addresses p.src p.dst
  pub numbers : (field : Field) → IsNumberIn n t p.family field (number_of field p)
  pub either_port : IsEitherPort n (protocols_of t.protocols) t.ports p.sport p.dport
  pub option : passes (option_of t.options) mode (is_written t.destination_ports) p ≡ true
