-- The fields of a term: its sets, and a match by its parts.
use Rattle.std.proofs.Common.{◌≡◌, ◌↔◌, ℕ, Bool, true, false, ◌&&◌, List, [], ◌∷◌, Option, refl, ap, subst}
use Rattle.std.specs.List.{list_all}
use Rattle.std.proofs.lemmas.Bool.{and_from, and_parts, both_ways}
use Rattle.acl_packet.specs.declared.addresses.Family.{Family}
use Rattle.acl_packet.specs.declared.addresses.Family.TheVariants.{V4, V6}
use Rattle.acl_packet.specs.declared.packet_fields.Field.{Field}
use Rattle.acl_packet.specs.declared.packet_fields.Field.TheVariants.{Protocol, SourcePort, DestinationPort, IcmpType, IcmpCode}
use Rattle.acl_packet.specs.declared.packets.Packet.{Packet}
use Rattle.acl_packet.specs.Packets.{icmp_fields, number_of, top_of}
use Rattle.acl_packet.proofs.FieldLaws.{by-field}
use Rattle.acl_sets.specs.Ranges.{Numbers, holds}
use Rattle.acl_policy.specs.RawTerms.{RawTerm}
use Rattle.acl_naming.specs.Definitions.{Naming}
use Rattle.acl_terms.specs.declared.ends.Ends.{Ends}
use Rattle.acl_terms.specs.declared.options.Mode.{Mode}
use Rattle.acl_terms.specs.declared.resolving.NumberSets.{NumberSets}
use Rattle.acl_terms.specs.declared.terms.Term.{Term}
use Rattle.acl_terms.specs.Matching.{IsNumber, IsProtocol, icmp_family, protocols_of}
use Rattle.acl_terms.specs.Options.{passes}
use Rattle.acl_terms.specs.Resolved.{addresses_match, has_number, has_protocol, holds_either, matches_in, set_in}
use Rattle.acl_terms.specs.Sets.{AreSetsOf, IsAddressSet, IsSetOf, by_field}
use Rattle.acl_terms.specs.SetSteps.{IsCode, IsPortSet, IsType, sets_by}
use Rattle.acl_terms.specs.Soundness.{is_protocol}

-- Sets by field are those of the fields, one after the other.
abbrev pub told : (Field → Numbers) → Field → Numbers
told numbers = by_field (numbers Protocol) (numbers SourcePort) (numbers DestinationPort) (numbers IcmpType)
    (numbers IcmpCode)

pub told-same : (numbers : Field → Numbers) → told numbers ≡ numbers
told-same numbers = λ j field. by-field (λ f. told numbers f ≡ numbers f) refl refl refl refl refl field j

-- The sets of a term, where each is what its words name.
pub sets_are : (n : Naming) (raw : RawTerm) (protos : List ℕ) (e : Ends) (p : NumberSets)
    → protos ≡ protocols_of raw.protocols
    → IsAddressSet n V4 raw e.src.v4 e.dst.v4 e.either.v4
    → IsAddressSet n V6 raw e.src.v6 e.dst.v6 e.either.v6
    → IsSetOf (IsProtocol raw.protocols) 255 p.protos
    → IsPortSet n protos raw p.ports.sports p.ports.dports p.ports.ports
    → IsSetOf (IsType (icmp_family protos) raw.icmp_types) 255 p.itypes
    → IsSetOf (IsCode raw.icmp_codes) 255 p.icodes
    → AreSetsOf n raw (sets_by e p)
sets_are n raw protos e p are four six named ports types icodes =
    let reached = subst (λ (qs : List ℕ). IsPortSet n qs raw p.ports.sports p.ports.dports p.ports.ports) are ports in
    let itypes = subst (λ (f : Option Family). IsSetOf (IsType f raw.icmp_types) 255 p.itypes) (ap icmp_family are) types in
    record {
      ipv4 = four;
      ipv6 = six;
      numbers_are = by-field (λ field. IsSetOf (IsNumber n raw field) (top_of field) ((sets_by e p).numbers field)) named
          reached.0 reached.1 itypes icodes;
      either_ports = reached.2;
      some_from = reached.3;
      some_to = reached.4;
      some_of_either = reached.5;
    }

-- The protocol with the addresses, the ports with those of either side, and the fields of ICMP.
abbrev pub ends_match : Family → Term → Packet → Bool
ends_match f t p = has_protocol f t p.proto && addresses_match f t p

abbrev pub ports_match : Term → Packet → Bool
ports_match t p = holds t.sports.ranges p.sport
    && (holds t.dports.ranges p.dport && holds_either t.ports p.sport p.dport)

abbrev pub icmp_match : Family → Term → Packet → Bool
icmp_match f t p = list_all (λ field. has_number f t field (number_of field p)) icmp_fields

parted : (a h s d r e q : Bool) → (a && ((h && (s && (d && r))) && (e && q))) ≡ ((h && a) && ((s && (d && e)) && (r && q)))
parted false false s d r e q = refl
parted false true s d r e q = refl
parted true false s d r e q = refl
parted true true false d r e q = refl
parted true true true false r e q = refl
parted true true true true false false q = refl
parted true true true true false true q = refl
parted true true true true true false q = refl
parted true true true true true true q = refl

pub by-parts : (f : Family) (mode : Mode) (t : Term) (p : Packet)
    → matches_in f mode t p
    ≡ (ends_match f t p && (ports_match t p && (icmp_match f t p && passes t.option mode t.dport_named p)))
by-parts f mode t p = parted (addresses_match f t p) (has_protocol f t p.proto) (holds t.sports.ranges p.sport)
    (holds t.dports.ranges p.dport) (icmp_match f t p) (holds_either t.ports p.sport p.dport)
    (passes t.option mode t.dport_named p)

-- ---- the protocol and the other fields

pub protocol-alone : (field : Field) → is_protocol field ≡ true → field ≡ Protocol
protocol-alone = by-field (λ field. is_protocol field ≡ true → field ≡ Protocol) (λ _. refl)
    (λ e. absurd (both_ways false refl e)) (λ e. absurd (both_ways false refl e)) (λ e. absurd (both_ways false refl e))
    (λ e. absurd (both_ways false refl e))

-- Of a field that is not the protocol, a term takes the numbers of its set.
pub others-held : (f : Family) (t : Term) (field : Field) (n : ℕ) → is_protocol field ≡ false
    → has_number f t field n ≡ holds (set_in field t).ranges n
others-held f t field n = by-field
    (λ g. is_protocol g ≡ false → has_number f t g n ≡ holds (set_in g t).ranges n)
    (λ e. absurd (both_ways true e refl)) (λ _. refl) (λ _. refl) (λ _. refl) (λ _. refl) field

-- Tests of the ports and of the fields of ICMP are those of all fields but the protocol.
pub others-pass : (test : Field → Bool) → (((test DestinationPort && test SourcePort) && list_all test icmp_fields) ≡ true)
    ↔ ((field : Field) → is_protocol field ≡ false → test field ≡ true)
others-pass test = (
  λ h. let a = and_parts (test DestinationPort && test SourcePort) (list_all test icmp_fields) h in
      let b = and_parts (test DestinationPort) (test SourcePort) a.0 in
      let c = and_parts (test IcmpType) (list_all test (IcmpCode ∷ [])) a.1 in
      let d = and_parts (test IcmpCode) (list_all test []) c.1 in
      by-field (λ field. is_protocol field ≡ false → test field ≡ true) (λ e. absurd (both_ways true e refl))
      (λ _. b.1) (λ _. b.0) (λ _. c.0) (λ _. d.0),
  λ k. and_from (test DestinationPort && test SourcePort) (list_all test icmp_fields)
      (and_from (test DestinationPort) (test SourcePort) (k DestinationPort refl) (k SourcePort refl))
      (and_from (test IcmpType) (list_all test (IcmpCode ∷ [])) (k IcmpType refl)
      (and_from (test IcmpCode) (list_all test []) (k IcmpCode refl) refl)),
)
