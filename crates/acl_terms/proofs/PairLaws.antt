-- A term has the addresses and ports of a packet where one of its pairs of sides does.
use Rattle.std.proofs.Common.{◌≡◌, ℕ, Bool, true, false, ◌&&◌, ◌||◌, inl, inr, refl, ap, sym, ◌∙◌, arith}
use Rattle.std.specs.List.{list_any}
use Rattle.std.proofs.lemmas.Bool.{and_from, and_parts, both_ways, false_from_ne_true}
use Rattle.std.proofs.lemmas.List.Folds.{Any-from_list_any}
use Rattle.acl_packet.specs.declared.addresses.Family.{Family}
use Rattle.acl_packet.specs.declared.addresses.Family.TheVariants.{V4, V6}
use Rattle.acl_packet.specs.declared.packet_fields.Field.TheVariants.{SourcePort, DestinationPort}
use Rattle.acl_packet.specs.declared.packets.Packet.{Packet}
use Rattle.acl_sets.specs.Ranges.{Numbers, IsNormal, holds}
use Rattle.acl_sets.specs.ComputableSets.{is_all}
use Rattle.acl_sets.proofs.RangeLaws.{at_top}
use Rattle.acl_sets.proofs.ComputableSetLaws.{covers-holds}
use Rattle.acl_terms.specs.declared.options.Mode.{Mode}
use Rattle.acl_terms.specs.declared.sides.Side.{Side}
use Rattle.acl_terms.specs.declared.sides.Side.TheVariants.{Whole, Source, Destination}
use Rattle.acl_terms.specs.declared.sides.SidePair.{SidePair}
use Rattle.acl_terms.specs.declared.terms.Term.{Term}
use Rattle.acl_terms.specs.Options.{passes}
use Rattle.acl_terms.specs.Resolved.{IsEmptyIn, addresses_match, destination_cut, destination_in, destinations_on, dports_on, either_in, has_protocol, holds_either, in_both, matches, matches_in, pairs_of, side_pairs, sides_of, source_cut, source_in, sources_on, sports_on}
use Rattle.acl_terms.proofs.FieldLaws.{by-parts, ends_match, icmp_match, ports_match}
use Rattle.acl_terms.proofs.SideLaws.{both-holds, destination-normal, source-normal, source_tops, sport_tops}

-- ---- sides

whole-case : (a b c d : Bool) → (a ≡ true → c ≡ true) → (a && (b && (c || d))) ≡ ((a && b) || false)
whole-case false b c d h = refl
whole-case true false c d h = refl
whole-case true true true d h = refl
whole-case true true false d h = absurd (both_ways false refl (h refl))

sides-case : (a b c d : Bool) → (a && (b && (c || d))) ≡ (((a && c) && b) || ((a && (b && d)) || false))
sides-case false b c d = refl
sides-case true false true d = refl
sides-case true false false d = refl
sides-case true true true d = refl
sides-case true true false true = refl
sides-case true true false false = refl

all-held : (s e : Numbers) (x : ℕ) → s.top ≡ e.top → IsNormal 0 s.top s.ranges → is_all e ≡ true
    → holds s.ranges x ≡ true → holds e.ranges x ≡ true
all-held s e x tops n all h =
    let l = at_top 0 s.top s.ranges x n h in
    covers-holds e.ranges 0 e.top x all (omega arith) (omega arith)

-- What is asked of either of two numbers is asked of the one or of the other.
by-sides : (named : Bool) (s d e : Numbers) (x y : ℕ) → s.top ≡ e.top → IsNormal 0 s.top s.ranges
    → IsNormal 0 d.top d.ranges → (named ≡ false → is_all e ≡ true)
    → (holds s.ranges x && (holds d.ranges y && holds_either e x y))
    ≡ list_any (λ side. holds (source_cut side s e).ranges x && holds (destination_cut side d e).ranges y) (sides_of named)
by-sides false s d e x y tops n m all =
    whole-case (holds s.ranges x) (holds d.ranges y) (holds e.ranges x) (holds e.ranges y)
    (all-held s e x tops n (all refl))
by-sides true s d e x y tops n m all =
    let a = holds s.ranges x in
    let b = holds d.ranges y in
    let c = holds e.ranges x in
    let k = holds e.ranges y in
    sides-case a b c k
    ∙ ap (λ t. (t && b) || ((a && (b && k)) || false)) (sym (both-holds s e x n))
    ∙ ap (λ t. (holds (in_both s e).ranges x && b) || ((a && t) || false)) (sym (both-holds d e y m))

either-all : (f : Family) (t : Term) → t.addr_named ≡ false → is_all (either_in f t) ≡ true
either-all V4 t = t.sound.addr4_named
either-all V6 t = t.sound.addr6_named

abbrev pub side_has_addresses : Family → Term → Packet → Side → Bool
side_has_addresses f t p side = holds (sources_on side f t).ranges p.src && holds (destinations_on side f t).ranges p.dst

abbrev pub side_has_ports : Term → Packet → Side → Bool
side_has_ports t p side = holds (sports_on side t).ranges p.sport && holds (dports_on side t).ranges p.dport

pub addresses-by-sides : (f : Family) (t : Term) (p : Packet)
    → addresses_match f t p ≡ list_any (side_has_addresses f t p) (sides_of t.addr_named)
addresses-by-sides f t p = by-sides t.addr_named (source_in f t) (destination_in f t) (either_in f t) p.src p.dst
    (source_tops f t) (source-normal f t) (destination-normal f t) (either-all f t)

pub ports-by-sides : (t : Term) (p : Packet)
    → ports_match t p ≡ list_any (side_has_ports t p) (sides_of t.port_named)
ports-by-sides t p = by-sides t.port_named t.sports t.dports t.ports p.sport p.dport (sport_tops t)
    (t.sound.normal SourcePort) (t.sound.normal DestinationPort) t.sound.ports_named

-- ---- pairs

one-one : (a b : Bool) → ((a && b) || false) ≡ ((a || false) && (b || false))
one-one true true = refl
one-one true false = refl
one-one false b = refl

one-two : (a b c : Bool) → ((a && b) || ((a && c) || false)) ≡ ((a || false) && (b || (c || false)))
one-two true true c = refl
one-two true false true = refl
one-two true false false = refl
one-two false b c = refl

two-one : (a b c : Bool) → ((a && c) || ((b && c) || false)) ≡ ((a || (b || false)) && (c || false))
two-one true b true = refl
two-one true true false = refl
two-one true false false = refl
two-one false true true = refl
two-one false true false = refl
two-one false false c = refl

two-two : (a b c d : Bool) → ((a && c) || ((a && d) || ((b && c) || ((b && d) || false))))
    ≡ ((a || (b || false)) && (c || (d || false)))
two-two true b true d = refl
two-two true b false true = refl
two-two true true false false = refl
two-two true false false false = refl
two-two false true true d = refl
two-two false true false true = refl
two-two false true false false = refl
two-two false false c d = refl

-- Some pair passes two tests where some side passes the one and some side the other.
any-pairs : (A B : Side → Bool) (addr_named port_named : Bool)
    → list_any (λ (q : SidePair). A q.addresses && B q.ports) (side_pairs addr_named port_named)
    ≡ (list_any A (sides_of addr_named) && list_any B (sides_of port_named))
any-pairs A B false false = one-one (A Whole) (B Whole)
any-pairs A B false true = one-two (A Whole) (B Source) (B Destination)
any-pairs A B true false = two-one (A Source) (A Destination) (B Whole)
any-pairs A B true true = two-two (A Source) (A Destination) (B Source) (B Destination)

-- The addresses and ports of a packet are in the sets of the pair.
abbrev pub pair_has : Family → Term → Packet → SidePair → Bool
pair_has f t p pair = side_has_addresses f t p pair.addresses && side_has_ports t p pair.ports

pub match-by-pairs : (f : Family) (t : Term) (p : Packet)
    → (addresses_match f t p && ports_match t p) ≡ list_any (pair_has f t p) (pairs_of t)
match-by-pairs f t p =
    ap (λ b. b && ports_match t p) (addresses-by-sides f t p)
    ∙ ap (λ b. list_any (side_has_addresses f t p) (sides_of t.addr_named) && b) (ports-by-sides t p)
    ∙ sym (any-pairs (side_has_addresses f t p) (side_has_ports t p) t.addr_named t.port_named)

-- ---- emptiness

-- A term that has the addresses, the ports and the protocol of a packet is not empty in its family.
pub matched-some : (f : Family) (mode : Mode) (t : Term) (p : Packet) → matches_in f mode t p ≡ true → IsEmptyIn f t → ⊥
matched-some f mode t p h empty =
    let last : Bool = icmp_match f t p && passes t.option mode t.dport_named p in
    let whole = and_parts (ends_match f t p) (ports_match t p && last) (sym (by-parts f mode t p) ∙ h) in
    let ports = (and_parts (ports_match t p) last whole.1).0 in
    let a = and_parts (has_protocol f t p.proto) (addresses_match f t p) whole.0 in
    let any = sym (match-by-pairs f t p) ∙ and_from (addresses_match f t p) (ports_match t p) a.1 ports in
    let some = Any-from_list_any (pair_has f t p) (pairs_of t) any in
    let pair = some.1 in
    let side = pair.addresses in
    let other = pair.ports in
    let has = and_parts (side_has_addresses f t p side) (side_has_ports t p other) some.4 in
    let ad = and_parts (holds (sources_on side f t).ranges p.src) (holds (destinations_on side f t).ranges p.dst) has.0 in
    let po = and_parts (holds (sports_on other t).ranges p.sport) (holds (dports_on other t).ranges p.dport) has.1 in
    elim (empty pair (some.0, some.2, some.3)) [
      | inl n ↦ elim n [
        | inl s ↦ both_ways (holds (sources_on side f t).ranges p.src) (s p.src) ad.0
        | inr r ↦ elim r [
          | inl d ↦ both_ways (holds (destinations_on side f t).ranges p.dst) (d p.dst) ad.1
          | inr q ↦ elim q [
            | inl s ↦ both_ways (holds (sports_on other t).ranges p.sport) (s p.sport) po.0
            | inr u ↦ elim u [
              | inl d ↦ both_ways (holds (dports_on other t).ranges p.dport) (d p.dport) po.1
              | inr v ↦ absurd v
            ]
          ]
        ]
      ]
      | inr n ↦ both_ways (has_protocol f t p.proto) (n p.proto) a.0
    ]

pub empty_matches_none : (mode : Mode) (t : Term) (p : Packet) → IsEmptyIn p.family t → matches mode t p ≡ false
unfolding matches
empty_matches_none mode t p empty = false_from_ne_true (matches mode t p) (λ h. matched-some p.family mode t p h empty)
