-- The bars tell packets.
use Rattle.std.proofs.Common.{◌≡◌, ◌↔◌, ℕ, Bool, true, false, not, eqb, ◌&&◌, ◌||◌, refl, sym, ◌∙◌, subst, arith, inl, inr}
use Rattle.std.specs.List.{list_any}
use Rattle.std.proofs.lemmas.Bool.{or_parts, or_from, eqb-false, ne_eqb, cases_eq, false≢true}
use Rattle.acl_packet.specs.declared.addresses.Family.{Family}
use Rattle.acl_packet.specs.declared.addresses.Family.TheVariants.{V4, V6}
use Rattle.acl_packet.specs.declared.packet_fields.Field.TheVariants.{Protocol, SourcePort, DestinationPort, IcmpType, IcmpCode}
use Rattle.acl_packet.specs.declared.packets.Packet.{Packet}
use Rattle.acl_packet.specs.Packets.{IsPacket, has_field, has_ports, is_extension_header, is_icmp, number_of}
use Rattle.acl_packet.proofs.FieldLaws.{by-field}
use Rattle.term_boxes.specs.Bars.{BarsTellPackets, bars, bars_of_both}
use Rattle.term_boxes.specs.Boxes.{everything, has}
use Rattle.term_boxes.specs.Coordinates.{FieldsFit}
use Rattle.term_boxes.specs.NumberSets.{but_icmp, but_tcp, extension_headers, from_one, without_ports}
use Rattle.term_boxes.proofs.HeldNumbers.{are-all, but-icmp-holds, but-tcp-holds, flags-zero, from-one-holds, headers-hold, without-ports-holds}
use Rattle.term_boxes.proofs.CoordinateLaws.{place-fits}

-- A number that is not 0 where it has to be.
abbrev tie : Bool → ℕ → Bool
tie a x = not a && (not (eqb x 0) && true)

tie-out : (a : Bool) (x : ℕ) → (a ≡ false → x ≡ 0) → tie a x ≡ false
tie-out true x h = refl
tie-out false x h = rw (h refl) refl

tie-in : (a : Bool) (x : ℕ) → tie a x ≡ false → a ≡ false → x ≡ 0
tie-in true x h e = absurd (false≢true (sym e))
tie-in false x h e = elim (cases_eq x 0) [
  | inl zero ↦ zero
  | inr ne ↦ absurd (false≢true (sym (rw (ne_eqb x 0 ne) at h)))
]

source-port-bar : (p : Packet) → FieldsFit p
    → has p (record (everything p.family) { protocols = without_ports; source_ports = from_one 65535 }) ≡ tie (has_ports p.proto) p.sport
source-port-bar p fits =
    let all = are-all p fits in
    let proto = fits.numbers Protocol in
    rw (
      all.source,
      all.destination,
      without-ports-holds p.proto (omega (arith, proto)),
      from-one-holds 65535 p.sport (fits.numbers SourcePort),
      all.destination_port,
      all.kind,
      all.code,
      all.flag,
      all.connection,
    ) refl

destination-port-bar : (p : Packet) → FieldsFit p
    → has p (record (everything p.family) { protocols = without_ports; destination_ports = from_one 65535 }) ≡ tie (has_ports p.proto) p.dport
destination-port-bar p fits =
    let all = are-all p fits in
    let proto = fits.numbers Protocol in
    rw (
      all.source,
      all.destination,
      without-ports-holds p.proto (omega (arith, proto)),
      all.source_port,
      from-one-holds 65535 p.dport (fits.numbers DestinationPort),
      all.kind,
      all.code,
      all.flag,
      all.connection,
    ) refl

flag-bar : (p : Packet) → FieldsFit p
    → has p (record (everything p.family) { protocols = but_tcp; flags = from_one 63 }) ≡ tie (eqb p.proto 6) p.flags
flag-bar p fits =
    let all = are-all p fits in
    let proto = fits.numbers Protocol in
    rw (
      all.source,
      all.destination,
      but-tcp-holds p.proto (omega (arith, proto)),
      all.source_port,
      all.destination_port,
      all.kind,
      all.code,
      from-one-holds 63 _ (place-fits p.flags fits.flags_fit),
      flags-zero p.flags fits.flags_fit,
      all.connection,
    ) refl

type-bar : (p : Packet) → FieldsFit p
    → has p (record (everything p.family) { protocols = but_icmp p.family; types = from_one 255 }) ≡ tie (is_icmp p.family p.proto) p.itype
type-bar p fits =
    let all = are-all p fits in
    let proto = fits.numbers Protocol in
    rw (
      all.source,
      all.destination,
      but-icmp-holds p.family p.proto (omega (arith, proto)),
      all.source_port,
      all.destination_port,
      from-one-holds 255 p.itype (fits.numbers IcmpType),
      all.code,
      all.flag,
      all.connection,
    ) refl

code-bar : (p : Packet) → FieldsFit p
    → has p (record (everything p.family) { protocols = but_icmp p.family; codes = from_one 255 }) ≡ tie (is_icmp p.family p.proto) p.icode
code-bar p fits =
    let all = are-all p fits in
    let proto = fits.numbers Protocol in
    rw (
      all.source,
      all.destination,
      but-icmp-holds p.family p.proto (omega (arith, proto)),
      all.source_port,
      all.destination_port,
      all.kind,
      from-one-holds 255 p.icode (fits.numbers IcmpCode),
      all.flag,
      all.connection,
    ) refl

last-true : (a : Bool) → (a && true) ≡ a
last-true true = refl
last-true false = refl

header-bar : (p : Packet) → FieldsFit p
    → has p (record (everything p.family) { protocols = extension_headers }) ≡ is_extension_header p.proto
header-bar p fits =
    let all = are-all p fits in
    let proto = fits.numbers Protocol in
    rw (
      all.source,
      all.destination,
      headers-hold p.proto (omega (arith, proto)),
      all.source_port,
      all.destination_port,
      all.kind,
      all.code,
      all.flag,
      all.connection,
    ) (last-true (is_extension_header p.proto))

abbrev ties : Packet → Bool
ties p = tie (has_ports p.proto) p.sport || (tie (has_ports p.proto) p.dport || (tie (eqb p.proto 6) p.flags
    || (tie (is_icmp p.family p.proto) p.itype || (tie (is_icmp p.family p.proto) p.icode || false))))

ties-are : (p : Packet) → FieldsFit p → list_any (has p) (bars_of_both p.family) ≡ ties p
ties-are p fits =
    rw (source-port-bar p fits, destination-port-bar p fits, flag-bar p fits, type-bar p fits, code-bar p fits) refl

-- The fields that a protocol has not.
record AreTied (p : Packet) : Type 0 where
  sports : has_ports p.proto ≡ false → p.sport ≡ 0
  dports : has_ports p.proto ≡ false → p.dport ≡ 0
  flags : eqb p.proto 6 ≡ false → p.flags ≡ 0
  types : is_icmp p.family p.proto ≡ false → p.itype ≡ 0
  codes : is_icmp p.family p.proto ≡ false → p.icode ≡ 0

ties-out : (p : Packet) → AreTied p → ties p ≡ false
ties-out p t =
    rw (
      tie-out (has_ports p.proto) p.sport t.sports,
      tie-out (has_ports p.proto) p.dport t.dports,
      tie-out (eqb p.proto 6) p.flags t.flags,
      tie-out (is_icmp p.family p.proto) p.itype t.types,
      tie-out (is_icmp p.family p.proto) p.icode t.codes,
    ) refl

ties-in : (p : Packet) → ties p ≡ false → AreTied p
ties-in p h =
    let a = or_parts (tie (has_ports p.proto) p.sport) _ h in
    let b = or_parts (tie (has_ports p.proto) p.dport) _ a.1 in
    let c = or_parts (tie (eqb p.proto 6) p.flags) _ b.1 in
    let d = or_parts (tie (is_icmp p.family p.proto) p.itype) _ c.1 in
    let e = or_parts (tie (is_icmp p.family p.proto) p.icode) false d.1 in
    record {
      sports = tie-in (has_ports p.proto) p.sport a.0;
      dports = tie-in (has_ports p.proto) p.dport b.0;
      flags = tie-in (eqb p.proto 6) p.flags c.0;
      types = tie-in (is_icmp p.family p.proto) p.itype d.0;
      codes = tie-in (is_icmp p.family p.proto) p.icode e.0;
    }

tied : (p : Packet) → IsPacket p → AreTied p
tied p is = record {
  sports = is.absent SourcePort;
  dports = is.absent DestinationPort;
  flags = λ e. is.flags_of_tcp (eqb-false p.proto 6 e);
  types = is.absent IcmpType;
  codes = is.absent IcmpCode;
}

packet : (p : Packet) → FieldsFit p → AreTied p → (p.family ≡ V6 → is_extension_header p.proto ≡ false) → IsPacket p
packet p fits t no-header = record {
  source = fits.source;
  destination = fits.destination;
  no_header = no-header;
  numbers = fits.numbers;
  absent = by-field (λ field. has_field p.family field p.proto ≡ false → number_of field p ≡ 0)
      (λ e. absurd (false≢true (sym e))) t.sports t.dports t.types t.codes;
  flags_fit = fits.flags_fit;
  flags_of_tcp = λ ne. t.flags (ne_eqb p.proto 6 ne);
}

in-family : (f : Family) (p : Packet) → p.family ≡ f → FieldsFit p → (IsPacket p ↔ (list_any (has p) (bars f) ≡ false))
unfolding bars
in-family V4 p e fits =
    let both : list_any (has p) (bars_of_both V4) ≡ ties p =
    subst (λ (f : Family). list_any (has p) (bars_of_both f) ≡ ties p) e (ties-are p fits) in (
      λ is. both ∙ ties-out p (tied p is),
      λ none. packet p fits (ties-in p (sym both ∙ none)) (λ six. absurd (let k : V4 ≡ V6 = sym e ∙ six in cc)),
    )
in-family V6 p e fits =
    let both : list_any (has p) (bars_of_both V6) ≡ ties p =
    subst (λ (f : Family). list_any (has p) (bars_of_both f) ≡ ties p) e (ties-are p fits) in
    let head : has p (record (everything V6) { protocols = extension_headers }) ≡ is_extension_header p.proto =
    subst (λ (f : Family). has p (record (everything f) { protocols = extension_headers }) ≡ is_extension_header p.proto) e (header-bar p fits) in (
      λ is. or_from _ _ (head ∙ is.no_header e) (both ∙ ties-out p (tied p is)),
      λ none.
          let parts = or_parts (has p (record (everything V6) { protocols = extension_headers })) _ none in
          packet p fits (ties-in p (sym both ∙ parts.1)) (λ six. sym head ∙ parts.0),
    )

pub bars-tell : BarsTellPackets
bars-tell p fits = in-family p.family p refl fits
