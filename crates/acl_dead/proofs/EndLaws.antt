-- Each side of each box in which a term decides nothing ends where the definition has a cut.
use Rattle.std.proofs.Common.{◌≡◌, ℕ, ◌<◌, ◌≤◌, zero, suc, Bool, true, false, not, ◌&&◌, ◌||◌, nat_le, arith, List, [], ◌∷◌, ◌++◌, flat_map, if◌then◌else◌, refl, sym, ap, ◌∙◌, subst, inl, inr}
use Rattle.std.proofs.lemmas.Bool.{and_parts, and_from, or_cases, or_left, or_right, cases_Bool, cases_lt, false≢true, leb-true, le-leb, ne_eqb, agree_below_at}
use Rattle.std.specs.List.{AllByRecursion, filter, list_any}
use Rattle.acl_packet.specs.declared.addresses.Family.{Family}
use Rattle.acl_packet.specs.declared.addresses.Family.TheVariants.{V4, V6}
use Rattle.acl_packet.specs.declared.packet_fields.Field.{Field}
use Rattle.acl_packet.specs.declared.packet_fields.Field.TheVariants.{Protocol, SourcePort, DestinationPort, IcmpType, IcmpCode}
use Rattle.acl_packet.specs.Addresses.{top_address}
use Rattle.acl_sets.specs.Ranges.{Numbers}
use Rattle.acl_terms.specs.declared.options.Mode.{Mode}
use Rattle.acl_terms.specs.declared.options.Mode.TheVariants.{Stateful, Stateless}
use Rattle.acl_terms.specs.declared.options.Opt.{Opt}
use Rattle.acl_terms.specs.declared.options.Opt.TheVariants.{Plain, Established, TcpEstablished, TcpInitial, Rst}
use Rattle.acl_terms.specs.declared.sides.Side.{Side}
use Rattle.acl_terms.specs.declared.sides.Side.TheVariants.{Whole, Source, Destination}
use Rattle.acl_terms.specs.declared.sides.SidePair.{SidePair}
use Rattle.acl_terms.specs.declared.terms.Term.{Term}
use Rattle.acl_terms.specs.Outcomes.{mode_of}
use Rattle.acl_terms.specs.Resolved.{destination_cut, destination_in, either_in, has_number, in_both, pairs_of, set_in, source_cut, source_in}
use Rattle.acl_dead.specs.Runs.{cuts, has_before, has_ended}
use Rattle.term_boxes.specs.declared.boxes.PacketBox.{PacketBox}
use Rattle.term_boxes.specs.Bars.{bars, bars_of_both}
use Rattle.term_boxes.specs.Boxes.{IsSet, everything}
use Rattle.term_boxes.specs.NumberSets.{ack_or_rst, but_icmp, but_tcp, client_ports, extension_headers, from_one, initial, neither_ack_nor_rst, no_rst, not_initial, outside, rst, server_ports, tcp, tracked, untracked, up_to, without_ports}
use Rattle.term_boxes.specs.TermBoxes.{boxes_of, established_ports, failing, failing_addresses, failing_boxes, failing_ports, pair_box, passing, protocols_in, seeming_established, seeming_new}
use Rattle.term_boxes.proofs.HeldNumbers.{from-one-holds, up-to-holds}
use Rattle.term_boxes.proofs.TermSets.{dports-set, either-set, have-boxes, outside-holds, ports-set, protocol-holds, shared-holds}
use Rattle.acl_dead.specs.ApartSteps.{apart}
use Rattle.acl_dead.specs.BlockSteps.{blocks_of, met_by}
use Rattle.acl_dead.specs.declared.coordinates.Coordinate.{Coordinate}
use Rattle.acl_dead.specs.declared.coordinates.Coordinate.TheVariants as along
use Rattle.acl_dead.specs.CoordinateSteps.{connection_places, cuts_along, flag_places}
use Rattle.acl_dead.specs.Deciding.{Question, address_cuts, asks_option, field_cuts, has, is_among, protocol_cuts, some_option}
use Rattle.acl_dead.specs.SideSteps.{side_of}
use Rattle.acl_dead.proofs.CutLaws.{before_same}

-- up to a top the set ends at cuts alone
abbrev pub Ends : ℕ → (ℕ → Bool) → Numbers → Type 0
Ends top is_cut s = (x : ℕ) → x ≤ top → has_ended (has s) x ≡ true → is_cut x ≡ true

not_true : (b : Bool) → not b ≡ true → b ≡ false
not_true false e = refl
not_true true e = absurd (false≢true e)

not_false : (b : Bool) → not b ≡ false → b ≡ true
not_false true e = refl
not_false false e = absurd (false≢true (sym e))

gone : (p : ℕ → Bool) (x : ℕ) → has_ended p x ≡ true → p x ≡ false
gone p x h = not_true (p x) (and_parts (not (p x)) (has_before p x) h).0

was : (p : ℕ → Bool) (x : ℕ) → has_ended p x ≡ true → has_before p x ≡ true
was p x h = (and_parts (not (p x)) (has_before p x) h).1

pub ends_more : (top : ℕ) (cut more : ℕ → Bool) (s : Numbers) → ((x : ℕ) → cut x ≡ true → more x ≡ true)
    → Ends top cut s → Ends top more s
ends_more top cut more s f ends x le h = f x (ends x le h)

-- ---- sets that reach to the top

ends_never : (top : ℕ) (cut : ℕ → Bool) (s : Numbers) → ((n : ℕ) → n < top → has s n ≡ true → has s (suc n) ≡ true)
    → Ends top cut s
ends_never top cut s goes_on zero le h = absurd (false≢true (was (has s) 0 h))
ends_never top cut s goes_on (suc n) le h =
    absurd (false≢true (sym (gone (has s) (suc n) h) ∙ goes_on n (omega arith) (was (has s) (suc n) h)))

up_to_ends : (top : ℕ) (cut : ℕ → Bool) → Ends top cut (up_to top)
up_to_ends top cut = ends_never top cut (up_to top) (λ n lt h. up-to-holds top (suc n) (omega arith))

from_one_ends : (top : ℕ) (cut : ℕ → Bool) → Ends top cut (from_one top)
from_one_ends top cut = ends_never top cut (from_one top) (λ n lt h. from-one-holds top (suc n) (omega arith) ∙ ap not (ne_eqb (suc n) 0 (λ e. absurd (omega arith))))

run_in : (low high x : ℕ) → ((nat_le low x && nat_le x high) || false) ≡ true → (low ≤ x) × (x ≤ high)
run_in low high x h = elim (or_cases _ _ h) [
  | inl here ↦ let p = and_parts (nat_le low x) (nat_le x high) here in (leb-true low x p.0, leb-true x high p.1)
  | inr none ↦ absurd (false≢true none)
]

in_run : (low high x : ℕ) → low ≤ x → x ≤ high → ((nat_le low x && nat_le x high) || false) ≡ true
in_run low high x from to = or_left _ _ (and_from _ _ (le-leb low x from) (le-leb x high to))

client_ends : (cut : ℕ → Bool) → Ends 65535 cut client_ports
client_ends cut = ends_never 65535 cut client_ports
    (λ n lt h. let p = run_in 1024 65535 n h in let from = p.0 in in_run 1024 65535 (suc n) (omega arith) (omega arith))

server_ends : (cut : ℕ → Bool) → cut 1024 ≡ true → Ends 65535 cut server_ports
server_ends cut at zero le h = absurd (false≢true (was (has server_ports) 0 h))
server_ends cut at (suc n) le h =
    let to = (run_in 0 1023 n (was (has server_ports) (suc n) h)).1 in
    elim (cases_lt 1023 (suc n)) [
      | inl past ↦ let e : 1024 ≡ suc n = omega arith in subst (λ (x : ℕ). cut x ≡ true) e at
      | inr within ↦ absurd (false≢true (sym (gone (has server_ports) (suc n) h) ∙ in_run 0 1023 (suc n) (omega arith) within))
    ]

-- ---- small sets, by a table

table : (s : Numbers) (numbers : List ℕ) (x : ℕ) → (not (has_ended (has s) x) || is_among numbers x) ≡ true
    → has_ended (has s) x ≡ true → is_among numbers x ≡ true
table s numbers x t h = elim (or_cases _ _ t) [
  | inl stays ↦ absurd (false≢true (sym (not_true (has_ended (has s) x) stays) ∙ h))
  | inr among ↦ among
]

abbrev row : Numbers → List ℕ → ℕ → Bool
row s numbers x = not (has_ended (has s) x) || is_among numbers x

none_among : (cut : ℕ → Bool) (x : ℕ) → is_among [] x ≡ true → cut x ≡ true
none_among cut x h = absurd (false≢true h)

protocols_end : (f : Family) (s : Numbers) → ((x : ℕ) → x < 256 → row s (protocol_cuts f) x ≡ true)
    → Ends 255 (λ x. is_among (protocol_cuts f) x) s
protocols_end f s rows x le h = table s (protocol_cuts f) x (rows x (omega arith)) h

tcp_ends : (f : Family) → Ends 255 (λ x. is_among (protocol_cuts f) x) tcp
tcp_ends V4 = protocols_end V4 tcp (λ x lt. agree_below_at (λ n. row tcp (protocol_cuts V4) n) (λ n. true) 256 x refl lt)
tcp_ends V6 = protocols_end V6 tcp (λ x lt. agree_below_at (λ n. row tcp (protocol_cuts V6) n) (λ n. true) 256 x refl lt)

but_tcp_ends : (f : Family) → Ends 255 (λ x. is_among (protocol_cuts f) x) but_tcp
but_tcp_ends V4 = protocols_end V4 but_tcp (λ x lt. agree_below_at (λ n. row but_tcp (protocol_cuts V4) n) (λ n. true) 256 x refl lt)
but_tcp_ends V6 = protocols_end V6 but_tcp (λ x lt. agree_below_at (λ n. row but_tcp (protocol_cuts V6) n) (λ n. true) 256 x refl lt)

but_icmp_ends : (f : Family) → Ends 255 (λ x. is_among (protocol_cuts f) x) (but_icmp f)
but_icmp_ends V4 = protocols_end V4 (but_icmp V4) (λ x lt. agree_below_at (λ n. row (but_icmp V4) (protocol_cuts V4) n) (λ n. true) 256 x refl lt)
but_icmp_ends V6 = protocols_end V6 (but_icmp V6) (λ x lt. agree_below_at (λ n. row (but_icmp V6) (protocol_cuts V6) n) (λ n. true) 256 x refl lt)

without_ports_ends : (f : Family) → Ends 255 (λ x. is_among (protocol_cuts f) x) without_ports
without_ports_ends V4 = protocols_end V4 without_ports (λ x lt. agree_below_at (λ n. row without_ports (protocol_cuts V4) n) (λ n. true) 256 x refl lt)
without_ports_ends V6 = protocols_end V6 without_ports (λ x lt. agree_below_at (λ n. row without_ports (protocol_cuts V6) n) (λ n. true) 256 x refl lt)

headers_end : Ends 255 (λ x. is_among (protocol_cuts V6) x) extension_headers
headers_end = protocols_end V6 extension_headers
    (λ x lt. agree_below_at (λ n. row extension_headers (protocol_cuts V6) n) (λ n. true) 256 x refl lt)

-- flags, where some term has an option
flags_end : (some : Bool) → some ≡ true → (s : Numbers) → ((x : ℕ) → x < 64 → row s (flag_places true) x ≡ true)
    → Ends 63 (λ x. is_among (flag_places some) x) s
flags_end some e s rows x le h =
    subst (λ (b : Bool). is_among (flag_places b) x ≡ true) (sym e) (table s (flag_places true) x (rows x (omega arith)) h)

tracked_ends : (cut : ℕ → Bool) → Ends 3 cut tracked
tracked_ends cut x le h =
    none_among cut x (table tracked [] x (agree_below_at (λ n. row tracked [] n) (λ n. true) 4 x refl (omega arith)) h)

untracked_ends : (stateful : Bool) → stateful ≡ true → Ends 3 (λ x. is_among (connection_places stateful) x) untracked
untracked_ends stateful e x le h =
    subst (λ (b : Bool). is_among (connection_places b) x ≡ true) (sym e)
    (table untracked (connection_places true) x (agree_below_at (λ n. row untracked (connection_places true) n) (λ n. true) 4 x refl (omega arith)) h)

-- ---- sets of terms

ends_self : (top : ℕ) (s : Numbers) → Ends top (λ x. cuts (has s) x) s
ends_self top s x le h = or_right _ _ h

ends_both : (top : ℕ) (cut : ℕ → Bool) (s e : Numbers) → IsSet top s → Ends top cut s → Ends top cut e
    → Ends top cut (in_both s e)
ends_both top cut s e set f g zero le h = absurd (false≢true (was (has (in_both s e)) 0 h))
ends_both top cut s e set f g (suc n) le h =
    let before = and_parts (has s n) (has e n) (sym (shared-holds top s e n set) ∙ was (has (in_both s e)) (suc n) h) in
    let now = sym (shared-holds top s e (suc n) set) ∙ gone (has (in_both s e)) (suc n) h in
    elim (cases_Bool (has s (suc n))) [
      | inl there ↦ g (suc n) le (and_from _ _ (ap not (sym (ap (λ b. b && has e (suc n)) there) ∙ now)) before.1)
      | inr off ↦ f (suc n) le (and_from _ _ (ap not off) before.0)
    ]

ends_outside : (top : ℕ) (s : Numbers) → IsSet top s → Ends top (λ x. cuts (has s) x) (outside s)
ends_outside top s set zero le h = absurd (false≢true (was (has (outside s)) 0 h))
ends_outside top s set (suc n) le h =
    let before : not (has s n) ≡ true = sym (outside-holds top s n set (omega arith)) ∙ was (has (outside s)) (suc n) h in
    let now : not (has s (suc n)) ≡ false = sym (outside-holds top s (suc n) set le) ∙ gone (has (outside s)) (suc n) h in
    or_left _ _ (and_from _ _ (not_false (has s (suc n)) now) before)

source_cut_ends : (side : Side) (top : ℕ) (cut : ℕ → Bool) (s e : Numbers) → IsSet top s → Ends top cut s → Ends top cut e
    → Ends top cut (source_cut side s e)
source_cut_ends Whole top cut s e set f g = f
source_cut_ends Source top cut s e set f g = ends_both top cut s e set f g
source_cut_ends Destination top cut s e set f g = f

destination_cut_ends : (side : Side) (top : ℕ) (cut : ℕ → Bool) (s e : Numbers) → IsSet top s → Ends top cut s → Ends top cut e
    → Ends top cut (destination_cut side s e)
destination_cut_ends Whole top cut s e set f g = f
destination_cut_ends Source top cut s e set f g = f
destination_cut_ends Destination top cut s e set f g = ends_both top cut s e set f g

-- ---- boxes

pub record BoxEnds (f : Family) (q : Question) (b : PacketBox) : Type 0 where
  pub sources : Ends (top_address f) (address_cuts (source_in f) f q) b.sources
  pub destinations : Ends (top_address f) (address_cuts (destination_in f) f q) b.destinations
  pub protocols : Ends 255 (field_cuts Protocol f q) b.protocols
  pub source_ports : Ends 65535 (field_cuts SourcePort f q) b.source_ports
  pub destination_ports : Ends 65535 (field_cuts DestinationPort f q) b.destination_ports
  pub types : Ends 255 (field_cuts IcmpType f q) b.types
  pub codes : Ends 255 (field_cuts IcmpCode f q) b.codes
  pub flags : Ends 63 (λ x. is_among (flag_places (some_option q)) x) b.flags
  pub connections : Ends 3 (λ x. is_among (connection_places q.target.stateful) x) b.connections

abbrev pub top_along : Coordinate → Family → ℕ
top_along along.Source f = top_address f
top_along along.Destination f = top_address f
top_along (along.Number Protocol) f = 255
top_along (along.Number SourcePort) f = 65535
top_along (along.Number DestinationPort) f = 65535
top_along (along.Number IcmpType) f = 255
top_along (along.Number IcmpCode) f = 255
top_along along.Flags f = 63
top_along along.Connection f = 3

pub ends_along : (c : Coordinate) (f : Family) (q : Question) (b : PacketBox) → BoxEnds f q b
    → Ends (top_along c f) (cuts_along c f q) (side_of c b)
ends_along along.Source f q b e = e.sources
ends_along along.Destination f q b e = e.destinations
ends_along (along.Number Protocol) f q b e = e.protocols
ends_along (along.Number SourcePort) f q b e = e.source_ports
ends_along (along.Number DestinationPort) f q b e = e.destination_ports
ends_along (along.Number IcmpType) f q b e = e.types
ends_along (along.Number IcmpCode) f q b e = e.codes
ends_along along.Flags f q b e = e.flags
ends_along along.Connection f q b e = e.connections

everything_ends : (f : Family) (q : Question) → BoxEnds f q (everything f)
everything_ends f q = record {
  sources = up_to_ends (top_address f) _;
  destinations = up_to_ends (top_address f) _;
  protocols = up_to_ends 255 _;
  source_ports = up_to_ends 65535 _;
  destination_ports = up_to_ends 65535 _;
  types = up_to_ends 255 _;
  codes = up_to_ends 255 _;
  flags = up_to_ends 63 _;
  connections = up_to_ends 3 _;
}

by_protocol : (f : Family) (q : Question) (s : Numbers) → Ends 255 (λ x. is_among (protocol_cuts f) x) s → Ends 255 (field_cuts Protocol f q) s
by_protocol f q s = ends_more 255 _ _ s (λ x h. or_right _ _ h)

-- ---- bars

bars_of_both_end : (f : Family) (q : Question) → AllByRecursion (BoxEnds f q) (bars_of_both f)
bars_of_both_end f q =
    let e = everything_ends f q in
    let ports = by_protocol f q without_ports (without_ports_ends f) in
    let others = by_protocol f q but_tcp (but_tcp_ends f) in
    let icmp = by_protocol f q (but_icmp f) (but_icmp_ends f) in (
      record { sources = e.sources; destinations = e.destinations; protocols = ports; source_ports = from_one_ends 65535 _; destination_ports = e.destination_ports; types = e.types; codes = e.codes; flags = e.flags; connections = e.connections },
      (
        record { sources = e.sources; destinations = e.destinations; protocols = ports; source_ports = e.source_ports; destination_ports = from_one_ends 65535 _; types = e.types; codes = e.codes; flags = e.flags; connections = e.connections },
        (
          record { sources = e.sources; destinations = e.destinations; protocols = others; source_ports = e.source_ports; destination_ports = e.destination_ports; types = e.types; codes = e.codes; flags = from_one_ends 63 _; connections = e.connections },
          (
            record { sources = e.sources; destinations = e.destinations; protocols = icmp; source_ports = e.source_ports; destination_ports = e.destination_ports; types = from_one_ends 255 _; codes = e.codes; flags = e.flags; connections = e.connections },
            (record { sources = e.sources; destinations = e.destinations; protocols = icmp; source_ports = e.source_ports; destination_ports = e.destination_ports; types = e.types; codes = from_one_ends 255 _; flags = e.flags; connections = e.connections }, tt),
          ),
        ),
      ),
    )

bars_end : (f : Family) (q : Question) → AllByRecursion (BoxEnds f q) (bars f)
unfolding bars
bars_end V4 q = bars_of_both_end V4 q
bars_end V6 q =
    let e = everything_ends V6 q in (
      record { sources = e.sources; destinations = e.destinations; protocols = by_protocol V6 q extension_headers headers_end; source_ports = e.source_ports; destination_ports = e.destination_ports; types = e.types; codes = e.codes; flags = e.flags; connections = e.connections },
      bars_of_both_end V6 q,
    )

-- ---- boxes of terms

-- what holds of the term holds of one of the terms
abbrev pub IsMember : List Term → Term → Type 0
IsMember ts t = (g : Term → Bool) → g t ≡ true → list_any g ts ≡ true

ended_same : (p r : ℕ → Bool) (x : ℕ) → ((y : ℕ) → p y ≡ r y) → has_ended p x ≡ has_ended r x
ended_same p r x e =
    ap (λ h. not h && has_before p x) (e x) ∙ ap (λ h. not (r x) && h) (before_same p r x e)

protocols_in_end : (f : Family) (q : Question) (t : Term) → IsMember q.earlier t → Ends 255 (field_cuts Protocol f q) (protocols_in f t)
protocols_in_end f q t m x le h =
    or_left _ _ (m (λ u. cuts (has_number f u Protocol) x)
    (or_right _ _ (sym (ended_same (has (protocols_in f t)) (has_number f t Protocol) x (protocol-holds f t)) ∙ h)))

either_member : (q : Question) (t : Term) → IsMember q.earlier t → IsMember (q.term ∷ q.earlier) t
either_member q t m g h = or_right _ _ (m g h)

set_ends : (f : Family) (q : Question) (t : Term) (field : Field) (top : ℕ) → ((x : ℕ) → cuts (has (set_in field t)) x ≡ true → field_cuts field f q x ≡ true)
    → Ends top (field_cuts field f q) (set_in field t)
set_ends f q t field top goes = ends_more top (λ x. cuts (has (set_in field t)) x) (field_cuts field f q) (set_in field t) goes (ends_self top (set_in field t))

pair_ends : (f : Family) (q : Question) (t : Term) (pair : SidePair) → IsMember q.earlier t → BoxEnds f q (pair_box f t pair)
pair_ends f q t pair m =
    let sets = (have-boxes f Stateless t).own in
    let either = ends_more (top_address f) (λ x. cuts (has (either_in f t)) x) in
    let ports = ends_more 65535 (λ x. cuts (has t.ports) x) in record {
      sources = source_cut_ends pair.addresses (top_address f) _ (source_in f t) (either_in f t) sets.sources
          (ends_more (top_address f) (λ x. cuts (has (source_in f t)) x) _ (source_in f t)
          (λ x h. or_left _ _ (m (λ u. cuts (has (source_in f u)) x) h)) (ends_self _ (source_in f t)))
          (either _ (either_in f t) (λ x h. or_right _ _ (either_member q t m (λ u. cuts (has (either_in f u)) x) h)) (ends_self _ (either_in f t)));
      destinations = destination_cut_ends pair.addresses (top_address f) _ (destination_in f t) (either_in f t) sets.destinations
          (ends_more (top_address f) (λ x. cuts (has (destination_in f t)) x) _ (destination_in f t)
          (λ x h. or_left _ _ (m (λ u. cuts (has (destination_in f u)) x) h)) (ends_self _ (destination_in f t)))
          (either _ (either_in f t) (λ x h. or_right _ _ (either_member q t m (λ u. cuts (has (either_in f u)) x) h)) (ends_self _ (either_in f t)));
      protocols = protocols_in_end f q t m;
      source_ports = source_cut_ends pair.ports 65535 _ t.sports t.ports sets.source_ports
          (set_ends f q t SourcePort 65535 (λ x h. or_left _ _ (m (λ u. cuts (has_number f u SourcePort) x) h)))
          (ports _ t.ports (λ x h. or_right _ _ (either_member q t m (λ u. cuts (has u.ports) x) h)) (ends_self _ t.ports));
      destination_ports = destination_cut_ends pair.ports 65535 _ t.dports t.ports sets.destination_ports
          (set_ends f q t DestinationPort 65535 (λ x h. or_left _ _ (m (λ u. cuts (has_number f u DestinationPort) x) h)))
          (ports _ t.ports (λ x h. or_right _ _ (or_left _ _ (either_member q t m (λ u. cuts (has u.ports) x) h))) (ends_self _ t.ports));
      types = set_ends f q t IcmpType 255 (λ x h. or_left _ _ (m (λ u. cuts (has_number f u IcmpType) x) h));
      codes = set_ends f q t IcmpCode 255 (λ x h. or_left _ _ (m (λ u. cuts (has_number f u IcmpCode) x) h));
      flags = up_to_ends 63 _;
      connections = up_to_ends 3 _;
    }

-- the flags of an option are cut where some term has one
pub with_flags : (f : Family) (q : Question) (b : PacketBox) (s : Numbers) → BoxEnds f q b → some_option q ≡ true
    → ((x : ℕ) → x < 64 → row s (flag_places true) x ≡ true) → BoxEnds f q (record b { flags = s })
with_flags f q b s e some rows = record {
  sources = e.sources;
  destinations = e.destinations;
  protocols = e.protocols;
  source_ports = e.source_ports;
  destination_ports = e.destination_ports;
  types = e.types;
  codes = e.codes;
  flags = flags_end (some_option q) some s rows;
  connections = e.connections;
}

with_connections : (f : Family) (q : Question) (b : PacketBox) (s : Numbers) → BoxEnds f q b
    → Ends 3 (λ x. is_among (connection_places q.target.stateful) x) s → BoxEnds f q (record b { connections = s })
with_connections f q b s e ends = record {
  sources = e.sources;
  destinations = e.destinations;
  protocols = e.protocols;
  source_ports = e.source_ports;
  destination_ports = e.destination_ports;
  types = e.types;
  codes = e.codes;
  flags = e.flags;
  connections = ends;
}

ack_rows : (x : ℕ) → x < 64 → row ack_or_rst (flag_places true) x ≡ true
ack_rows x lt = agree_below_at (λ n. row ack_or_rst (flag_places true) n) (λ n. true) 64 x refl lt

neither_rows : (x : ℕ) → x < 64 → row neither_ack_nor_rst (flag_places true) x ≡ true
neither_rows x lt = agree_below_at (λ n. row neither_ack_nor_rst (flag_places true) n) (λ n. true) 64 x refl lt

initial_rows : (x : ℕ) → x < 64 → row initial (flag_places true) x ≡ true
initial_rows x lt = agree_below_at (λ n. row initial (flag_places true) n) (λ n. true) 64 x refl lt

not_initial_rows : (x : ℕ) → x < 64 → row not_initial (flag_places true) x ≡ true
not_initial_rows x lt = agree_below_at (λ n. row not_initial (flag_places true) n) (λ n. true) 64 x refl lt

rst_rows : (x : ℕ) → x < 64 → row rst (flag_places true) x ≡ true
rst_rows x lt = agree_below_at (λ n. row rst (flag_places true) n) (λ n. true) 64 x refl lt

no_rst_rows : (x : ℕ) → x < 64 → row no_rst (flag_places true) x ≡ true
no_rst_rows x lt = agree_below_at (λ n. row no_rst (flag_places true) n) (λ n. true) 64 x refl lt

established_end : (f : Family) (q : Question) (named : Bool) (s : Numbers) → IsSet 65535 s → Ends 65535 (field_cuts DestinationPort f q) s
    → Ends 65535 (field_cuts DestinationPort f q) (established_ports named s)
established_end f q true s set e = e
established_end f q false s set e = ends_both 65535 _ s client_ports set e (client_ends _)

seeming_end : (f : Family) (q : Question) (named : Bool) (b : PacketBox) → BoxEnds f q b → some_option q ≡ true
    → IsSet 255 b.protocols → IsSet 65535 b.destination_ports → AllByRecursion (BoxEnds f q) (seeming_established named b)
seeming_end f q named b e some protos ports = (
  record {
    sources = e.sources;
    destinations = e.destinations;
    protocols = ends_both 255 _ b.protocols tcp protos e.protocols (by_protocol f q tcp (tcp_ends f));
    source_ports = e.source_ports;
    destination_ports = e.destination_ports;
    types = e.types;
    codes = e.codes;
    flags = flags_end (some_option q) some ack_or_rst ack_rows;
    connections = e.connections;
  },
  (
    record {
      sources = e.sources;
      destinations = e.destinations;
      protocols = ends_both 255 _ b.protocols but_tcp protos e.protocols (by_protocol f q but_tcp (but_tcp_ends f));
      source_ports = e.source_ports;
      destination_ports = established_end f q named b.destination_ports ports e.destination_ports;
      types = e.types;
      codes = e.codes;
      flags = e.flags;
      connections = e.connections;
    },
    tt,
  ),
)

-- an option that is asked for is one of some term
abbrev Asks : Question → Opt → Type 0
Asks q o = asks_option o ≡ true → some_option q ≡ true

passing_end : (f : Family) (q : Question) (o : Opt) (mode : Mode) (named : Bool) (b : PacketBox) → BoxEnds f q b → Asks q o
    → IsSet 255 b.protocols → IsSet 65535 b.destination_ports → AllByRecursion (BoxEnds f q) (passing o mode named b)
passing_end f q Plain mode named b e some protos ports = (e, tt)
passing_end f q Established Stateful named b e some protos ports = (with_connections f q b tracked e (tracked_ends _), tt)
passing_end f q Established Stateless named b e some protos ports = seeming_end f q named b e (some refl) protos ports
passing_end f q TcpEstablished Stateful named b e some protos ports = (with_connections f q b tracked e (tracked_ends _), tt)
passing_end f q TcpEstablished Stateless named b e some protos ports = (with_flags f q b ack_or_rst e (some refl) ack_rows, tt)
passing_end f q TcpInitial mode named b e some protos ports = (with_flags f q b initial e (some refl) initial_rows, tt)
passing_end f q Rst mode named b e some protos ports = (with_flags f q b rst e (some refl) rst_rows, tt)

-- ---- lists of boxes

all_append : {A : Type 0} (P : A → Type 0) (xs ys : List A) → AllByRecursion P xs → AllByRecursion P ys → AllByRecursion P (xs ++ ys)
all_append P [] ys a b = b
all_append P (x ∷ xs) ys a b = (a.0, all_append P xs ys a.1 b)

all_flat : {A B : Type 0} (P : B → Type 0) (rows : A → List B) (xs : List A) → ((x : A) → AllByRecursion P (rows x))
    → AllByRecursion P (flat_map rows xs)
all_flat P rows [] each = tt
all_flat P rows (x ∷ xs) each = all_append P (rows x) (flat_map rows xs) (each x) (all_flat P rows xs each)

pair_protocols : (f : Family) (t : Term) → IsSet 255 (protocols_in f t)
pair_protocols f t = (have-boxes f Stateless t).own.protocols

dports_set : (t : Term) (side : Side) → IsSet 65535 (destination_cut side t.dports t.ports)
dports_set t side = dports-set side t

term_end : (f : Family) (q : Question) (mode : Mode) (t : Term) → IsMember q.earlier t → AllByRecursion (BoxEnds f q) (boxes_of f mode t)
unfolding boxes_of
term_end f q mode t m =
    all_flat (BoxEnds f q) (λ pair. passing t.option mode t.dport_named (pair_box f t pair)) (pairs_of t)
    (λ pair. passing_end f q t.option mode t.dport_named (pair_box f t pair) (pair_ends f q t pair m)
    (λ asks. or_right _ _ (m (λ u. asks_option u.option) asks)) (pair_protocols f t) (dports_set t pair.ports))

terms_end : (f : Family) (q : Question) (mode : Mode) (ts : List Term) → ((g : Term → Bool) → list_any g ts ≡ true → list_any g q.earlier ≡ true)
    → AllByRecursion (BoxEnds f q) (flat_map (λ t. boxes_of f mode t) ts)
terms_end f q mode [] among = tt
terms_end f q mode (t ∷ ts) among =
    all_append (BoxEnds f q) (boxes_of f mode t) (flat_map (λ u. boxes_of f mode u) ts)
    (term_end f q mode t (λ g h. among g (or_left _ _ h)))
    (terms_end f q mode ts (λ g h. among g (or_right _ _ h)))

-- ---- what keeps the term itself from matching

failing_addresses_end : (f : Family) (q : Question) (named : Bool)
    → AllByRecursion (BoxEnds f q) (if named then record (everything f) { sources = outside (either_in f q.term); destinations = outside (either_in f q.term) } ∷ [] else [])
failing_addresses_end f q false = tt
failing_addresses_end f q true =
    let e = everything_ends f q in
    let set = either-set f q.term in
    let ends = ends_outside (top_address f) (either_in f q.term) set in (
      record {
        sources = ends_more (top_address f) _ _ (outside (either_in f q.term)) (λ x h. or_right _ _ (or_left _ _ h)) ends;
        destinations = ends_more (top_address f) _ _ (outside (either_in f q.term)) (λ x h. or_right _ _ (or_left _ _ h)) ends;
        protocols = e.protocols;
        source_ports = e.source_ports;
        destination_ports = e.destination_ports;
        types = e.types;
        codes = e.codes;
        flags = e.flags;
        connections = e.connections;
      },
      tt,
    )

failing_ports_end : (f : Family) (q : Question) (named : Bool)
    → AllByRecursion (BoxEnds f q) (if named then record (everything f) { source_ports = outside q.term.ports; destination_ports = outside q.term.ports } ∷ [] else [])
failing_ports_end f q false = tt
failing_ports_end f q true =
    let e = everything_ends f q in
    let ends = ends_outside 65535 q.term.ports (ports-set q.term) in (
      record {
        sources = e.sources;
        destinations = e.destinations;
        protocols = e.protocols;
        source_ports = ends_more 65535 _ _ (outside q.term.ports) (λ x h. or_right _ _ (or_left _ _ h)) ends;
        destination_ports = ends_more 65535 _ _ (outside q.term.ports) (λ x h. or_right _ _ (or_left _ _ (or_left _ _ h))) ends;
        types = e.types;
        codes = e.codes;
        flags = e.flags;
        connections = e.connections;
      },
      tt,
    )

server_box : (f : Family) (q : Question) (named : Bool)
    → AllByRecursion (BoxEnds f q) (if named then [] else record (everything f) { protocols = but_tcp; destination_ports = server_ports } ∷ [])
server_box f q true = tt
server_box f q false =
    let e = everything_ends f q in (
      record {
        sources = e.sources;
        destinations = e.destinations;
        protocols = by_protocol f q but_tcp (but_tcp_ends f);
        source_ports = e.source_ports;
        destination_ports = server_ends _ (or_right _ _ (or_right _ _ refl));
        types = e.types;
        codes = e.codes;
        flags = e.flags;
        connections = e.connections;
      },
      tt,
    )

new_end : (f : Family) (q : Question) (named : Bool) → some_option q ≡ true → AllByRecursion (BoxEnds f q) (seeming_new f named)
new_end f q named some =
    let e = everything_ends f q in (
      record {
        sources = e.sources;
        destinations = e.destinations;
        protocols = by_protocol f q tcp (tcp_ends f);
        source_ports = e.source_ports;
        destination_ports = e.destination_ports;
        types = e.types;
        codes = e.codes;
        flags = flags_end (some_option q) some neither_ack_nor_rst neither_rows;
        connections = e.connections;
      },
      server_box f q named,
    )

failing_end : (f : Family) (q : Question) (o : Opt) (mode : Mode) (named : Bool) → Asks q o → (mode ≡ Stateful → q.target.stateful ≡ true)
    → AllByRecursion (BoxEnds f q) (failing o mode named f)
failing_end f q Plain mode named some known = tt
failing_end f q Established Stateful named some known =
    (with_connections f q (everything f) untracked (everything_ends f q) (untracked_ends q.target.stateful (known refl)), tt)
failing_end f q Established Stateless named some known = new_end f q named (some refl)
failing_end f q TcpEstablished Stateful named some known =
    (with_connections f q (everything f) untracked (everything_ends f q) (untracked_ends q.target.stateful (known refl)), tt)
failing_end f q TcpEstablished Stateless named some known =
    (with_flags f q (everything f) neither_ack_nor_rst (everything_ends f q) (some refl) neither_rows, tt)
failing_end f q TcpInitial mode named some known =
    (with_flags f q (everything f) not_initial (everything_ends f q) (some refl) not_initial_rows, tt)
failing_end f q Rst mode named some known =
    (with_flags f q (everything f) no_rst (everything_ends f q) (some refl) no_rst_rows, tt)

abbrev is_stateless : Mode → Bool
is_stateless Stateful = false
is_stateless Stateless = true

stateless : Stateless ≡ Stateful → ⊥
stateless e = false≢true (sym (ap is_stateless e))

stateful_known : (stateful : Bool) → (if stateful then Stateful else Stateless) ≡ Stateful → stateful ≡ true
stateful_known true e = refl
stateful_known false e = absurd (stateless e)

pub any_kept : (g kept : Term → Bool) (ts : List Term) → list_any g (filter kept ts) ≡ true → list_any g ts ≡ true
any_kept g kept [] h = h
any_kept g kept (t ∷ ts) h = elim (cases_Bool (kept t)) [
  | inl stays ↦ elim (or_cases (g t) (list_any g (filter kept ts)) (rw stays at h)) [
    | inl here ↦ or_left _ _ here
    | inr later ↦ or_right _ _ (any_kept g kept ts later)
  ]
  | inr out ↦ or_right _ _ (any_kept g kept ts (rw out at h))
]

pub blocks_end : (f : Family) (q : Question) → AllByRecursion (BoxEnds f q) (blocks_of f q)
unfolding failing_boxes
blocks_end f q =
    all_append (BoxEnds f q) (bars f ++ failing_boxes f (mode_of q.target) q.term) (flat_map (λ t. boxes_of f (mode_of q.target) t) (met_by f q.term q.earlier))
    (all_append (BoxEnds f q) (bars f) (failing_boxes f (mode_of q.target) q.term) (bars_end f q)
    (all_append (BoxEnds f q) (failing_addresses f q.term) (failing_ports f q.term ++ failing q.term.option (mode_of q.target) q.term.dport_named f)
    (failing_addresses_end f q q.term.addr_named)
    (all_append (BoxEnds f q) (failing_ports f q.term) (failing q.term.option (mode_of q.target) q.term.dport_named f)
    (failing_ports_end f q q.term.port_named)
    (failing_end f q q.term.option (mode_of q.target) q.term.dport_named (λ asks. or_left _ _ asks) (stateful_known q.target.stateful)))))
    (terms_end f q (mode_of q.target) (met_by f q.term q.earlier) (λ g h. any_kept g (λ u. not (apart f q.term u)) q.earlier h))
