-- The sides of boxes end where sets of the term do, or at a few numbers besides.
use Rattle.std.proofs.Common.{◌≡◌, ℕ, ◌+◌, ◌<◌, ◌≤◌, ◌⊎◌, Bool, true, false, cond, not, ◌&&◌, ◌||◌, ◌==◌, List, [], ◌∷◌, ◌++◌, refl, ap, sym, ◌∙◌, subst, arith, inl, inr}
use Rattle.std.specs.List.{AllByRecursion}
use Rattle.std.proofs.lemmas.Bool.{and_parts, both_ways, eqb-true, or_cases, or_parts, cases_lt}
use Rattle.acl_packet.specs.declared.addresses.Family.{Family}
use Rattle.acl_packet.specs.declared.addresses.Family.TheVariants.{V4, V6}
use Rattle.acl_packet.specs.declared.packet_fields.Field.TheVariants.{SourcePort, DestinationPort}
use Rattle.acl_packet.specs.Addresses.{top_address}
use Rattle.acl_packet.specs.Packets.{foreign_of}
use Rattle.acl_sets.specs.declared.sets.Range.{Range}
use Rattle.acl_sets.specs.ComputableSets.{is_all}
use Rattle.acl_sets.specs.Ranges.{Numbers, holds, inside}
use Rattle.acl_sets.proofs.RangeLaws.{ends_of, in_range}
use Rattle.acl_text.proofs.ListLaws.{all_append}
use Rattle.acl_terms.specs.declared.options.Mode.{Mode}
use Rattle.acl_terms.specs.declared.options.Mode.TheVariants.{Stateful, Stateless}
use Rattle.acl_terms.specs.declared.options.Opt.{Opt}
use Rattle.acl_terms.specs.declared.options.Opt.TheVariants.{Plain, Established, TcpEstablished, TcpInitial, Rst}
use Rattle.acl_terms.specs.declared.sides.Side.{Side}
use Rattle.acl_terms.specs.declared.sides.Side.TheVariants.{Whole, Source, Destination}
use Rattle.acl_terms.specs.declared.sides.SidePair.{SidePair}
use Rattle.acl_terms.specs.declared.terms.Term.{Term}
use Rattle.acl_terms.specs.Resolved.{destinations_on, dports_on, either_in, in_both, pairs_of, sources_on, sports_on}
use Rattle.term_boxes.specs.declared.boxes.PacketBox.{PacketBox}
use Rattle.term_boxes.specs.Bars.{bars, bars_of_both}
use Rattle.term_boxes.specs.Boxes.{IsSet, everything}
use Rattle.term_boxes.specs.NumberSets.{ack_or_rst, but_icmp, but_tcp, client_ports, extension_headers, from_one, initial, neither_ack_nor_rst, no_rst, not_initial, outside, rst, run, server_ports, tcp, tracked, untracked, up_to, without_ports}
use Rattle.term_boxes.specs.SideEnds.{AllPass, BarsEnd, BeginsAt, EndsBefore, FailuresEndWithSets, PassAll, PassEnds, SidesEnd, TermsEndWithSets, Tests, is_plain, is_stateful}
use Rattle.term_boxes.specs.TermBoxes.{boxes_of, established_ports, failing, failing_addresses, failing_boxes, failing_ports, pair_box, passing, protocols_in, seeming_new}
use Rattle.term_boxes.proofs.TermSets.{all-flat, destination-set, dports-set, either-set, outside-holds, own, ports-set, protocol-holds, protocols-set, shared-holds, source-set}

-- ---- sets

-- The number just behind a range passes, or the range ends at the top.
abbrev IsEnd : (ℕ → Bool) → ℕ → Range → Type 0
IsEnd test top r = (top ≤ r.high) ⊎ (test (r.high + 1) ≡ true)

ended : (test : ℕ → Bool) (top x : ℕ) (rs : List Range) → AllByRecursion (IsEnd test top) rs → x < top
    → holds rs x ≡ true → holds rs (x + 1) ≡ false → test (x + 1) ≡ true
ended test top x [] all lt h k = absurd (both_ways false refl h)
ended test top x (r ∷ rs) all lt h k =
    let none = or_parts (inside r (x + 1)) (holds rs (x + 1)) k in
    elim (or_cases (inside r x) (holds rs x) h) [
      | inl i ↦
          let ends = ends_of r.low r.high x i in
          elim (cases_lt x r.high) [
            | inl more ↦ absurd (both_ways (inside r (x + 1)) none.0 (in_range r.low r.high (x + 1) (omega (arith, ends)) (omega (arith, more))))
            | inr less ↦
                let same : r.high ≡ x = omega (arith, ends, less) in
                elim all.0 [
                  | inl over ↦ absurd (omega (arith, over, same, lt))
                  | inr e ↦ subst (λ n. test (n + 1) ≡ true) same e
                ]
          ]
      | inr i ↦ ended test top x rs all.1 lt i none.1
    ]

up-to-ends : (test : ℕ → Bool) (top : ℕ) → EndsBefore test top (up_to top)
up-to-ends test top = λ x lt h k. ended test top x (run 0 top ∷ []) (inl (omega arith), tt) lt h k

from-one-ends : (test : ℕ → Bool) (top : ℕ) → EndsBefore test top (from_one top)
from-one-ends test top = λ x lt h k. ended test top x (run 1 top ∷ []) (inl (omega arith), tt) lt h k

both-ends : (test : ℕ → Bool) (top : ℕ) (s e : Numbers) → IsSet top s → EndsBefore test top s → EndsBefore test top e
    → EndsBefore test top (in_both s e)
both-ends test top s e is a b x lt h k =
    let here = and_parts (holds s.ranges x) (holds e.ranges x) (sym (shared-holds top s e x is) ∙ h) in
    by (holds s.ranges (x + 1)) refl (sym (shared-holds top s e (x + 1) is) ∙ k) here.0 here.1
  where
    by : (c : Bool) → holds s.ranges (x + 1) ≡ c → (c && holds e.ranges (x + 1)) ≡ false → holds s.ranges x ≡ true
        → holds e.ranges x ≡ true → test (x + 1) ≡ true
    by true q none p r = b x lt r none
    by false q none p r = a x lt p q

turned : (a b : Bool) → not a ≡ b → a ≡ not b
turned true b e = ap not e
turned false b e = ap not e

outside-ends : (test : ℕ → Bool) (top : ℕ) (s : Numbers) → IsSet top s → BeginsAt test s → EndsBefore test top (outside s)
outside-ends test top s is begins x lt h k =
    begins x (turned (holds s.ranges x) true (sym (outside-holds top s x is (omega (arith, lt))) ∙ h))
    (turned (holds s.ranges (x + 1)) false (sym (outside-holds top s (x + 1) is (omega (arith, lt))) ∙ k))

protocols-end : (test : ℕ → Bool) (f : Family) (t : Term) → EndsBefore test 255 t.protos → test (foreign_of f) ≡ true
    → EndsBefore test 255 (protocols_in f t)
protocols-end test f t a foreign x lt h k =
    let here = and_parts (holds t.protos.ranges x) (is_all t.protos || not (x == foreign_of f)) (sym (protocol-holds f t x) ∙ h) in
    by (holds t.protos.ranges (x + 1)) refl (sym (protocol-holds f t (x + 1)) ∙ k) here.0
  where
    by : (c : Bool) → holds t.protos.ranges (x + 1) ≡ c → (c && (is_all t.protos || not (x + 1 == foreign_of f))) ≡ false
        → holds t.protos.ranges x ≡ true → test (x + 1) ≡ true
    by true q none p =
        let parts = or_parts (is_all t.protos) (not (x + 1 == foreign_of f)) none in
        let same = eqb-true (x + 1) (foreign_of f) (turned (x + 1 == foreign_of f) false parts.1) in
        subst (λ n. test n ≡ true) (sym same) foreign
    by false q none p = a x lt p q

-- ---- boxes

ending : {f : Family} {tests : Tests} {b : PacketBox} → EndsBefore tests.sources (top_address f) b.sources
    → EndsBefore tests.destinations (top_address f) b.destinations → EndsBefore tests.protocols 255 b.protocols
    → EndsBefore tests.source_ports 65535 b.source_ports → EndsBefore tests.destination_ports 65535 b.destination_ports
    → EndsBefore tests.types 255 b.types → EndsBefore tests.codes 255 b.codes → EndsBefore tests.flags 63 b.flags
    → EndsBefore tests.connections 3 b.connections → SidesEnd f tests b
ending s d h sp dp ty co g c = record {
  sources = s;
  destinations = d;
  protocols = h;
  source_ports = sp;
  destination_ports = dp;
  types = ty;
  codes = co;
  flags = g;
  connections = c;
}

everything-ends : (f : Family) (tests : Tests) → SidesEnd f tests (everything f)
everything-ends f tests =
    ending (up-to-ends tests.sources (top_address f)) (up-to-ends tests.destinations (top_address f)) (up-to-ends tests.protocols 255)
    (up-to-ends tests.source_ports 65535) (up-to-ends tests.destination_ports 65535) (up-to-ends tests.types 255)
    (up-to-ends tests.codes 255) (up-to-ends tests.flags 63) (up-to-ends tests.connections 3)

other-flags : (f : Family) (tests : Tests) (b : PacketBox) (flags : Numbers) → SidesEnd f tests b → EndsBefore tests.flags 63 flags
    → AllByRecursion (SidesEnd f tests) (record b { flags = flags } ∷ [])
other-flags f tests b flags h g =
    (ending h.sources h.destinations h.protocols h.source_ports h.destination_ports h.types h.codes g h.connections, tt)

other-connections : (f : Family) (tests : Tests) (b : PacketBox) (connections : Numbers) → SidesEnd f tests b
    → EndsBefore tests.connections 3 connections → AllByRecursion (SidesEnd f tests) (record b { connections = connections } ∷ [])
other-connections f tests b connections h c =
    (ending h.sources h.destinations h.protocols h.source_ports h.destination_ports h.types h.codes h.flags c, tt)

-- ---- what passes

sources-end : (side : Side) (f : Family) (tests : Tests) (mode : Mode) (t : Term) → PassEnds f tests mode t
    → EndsBefore tests.sources (top_address f) (sources_on side f t)
sources-end Whole f tests mode t h = h.sources
sources-end Source f tests mode t h =
    both-ends tests.sources (top_address f) _ (either_in f t) (source-set f t) h.sources h.either_sources
sources-end Destination f tests mode t h = h.sources

destinations-end : (side : Side) (f : Family) (tests : Tests) (mode : Mode) (t : Term) → PassEnds f tests mode t
    → EndsBefore tests.destinations (top_address f) (destinations_on side f t)
destinations-end Whole f tests mode t h = h.destinations
destinations-end Source f tests mode t h = h.destinations
destinations-end Destination f tests mode t h =
    both-ends tests.destinations (top_address f) _ (either_in f t) (destination-set f t) h.destinations h.either_destinations

sports-end : (side : Side) (f : Family) (tests : Tests) (mode : Mode) (t : Term) → PassEnds f tests mode t
    → EndsBefore tests.source_ports 65535 (sports_on side t)
sports-end Whole f tests mode t h = h.source_ports
sports-end Source f tests mode t h =
    both-ends tests.source_ports 65535 t.sports t.ports (own t SourcePort) h.source_ports h.either_source_ports
sports-end Destination f tests mode t h = h.source_ports

dports-end : (side : Side) (f : Family) (tests : Tests) (mode : Mode) (t : Term) → PassEnds f tests mode t
    → EndsBefore tests.destination_ports 65535 (dports_on side t)
dports-end Whole f tests mode t h = h.destination_ports
dports-end Source f tests mode t h = h.destination_ports
dports-end Destination f tests mode t h =
    both-ends tests.destination_ports 65535 t.dports t.ports (own t DestinationPort) h.destination_ports h.either_destination_ports

pair-ends : (f : Family) (tests : Tests) (mode : Mode) (t : Term) (pair : SidePair) → PassEnds f tests mode t
    → SidesEnd f tests (pair_box f t pair)
pair-ends f tests mode t pair h =
    ending (sources-end pair.addresses f tests mode t h) (destinations-end pair.addresses f tests mode t h)
    (protocols-end tests.protocols f t h.protocols h.named_protocols.0) (sports-end pair.ports f tests mode t h)
    (dports-end pair.ports f tests mode t h) h.types h.codes (up-to-ends tests.flags 63) (up-to-ends tests.connections 3)

tcp-ends : (test : ℕ → Bool) → test 7 ≡ true → EndsBefore test 255 tcp
tcp-ends test e = λ x lt h k. ended test 255 x tcp.ranges (inr e, tt) lt h k

but-tcp-ends : (test : ℕ → Bool) → test 6 ≡ true → EndsBefore test 255 but_tcp
but-tcp-ends test e = λ x lt h k. ended test 255 x but_tcp.ranges (inr e, (inl (omega arith), tt)) lt h k

ports-end : (test : ℕ → Bool) (named : Bool) (s : Numbers) → IsSet 65535 s → EndsBefore test 65535 s
    → EndsBefore test 65535 (established_ports named s)
ports-end test true s is a = a
ports-end test false s is a =
    both-ends test 65535 s client_ports is a (λ x lt h k. ended test 65535 x client_ports.ranges (inl (omega arith), tt) lt h k)

ack-or-rst-ends : (test : ℕ → Bool) → EndsBefore test 63 ack_or_rst
ack-or-rst-ends test = λ x lt h k. ended test 63 x ack_or_rst.ranges (inl (omega arith), tt) lt h k

tracked-ends : (test : ℕ → Bool) → EndsBefore test 3 tracked
tracked-ends test = λ x lt h k. ended test 3 x tracked.ranges (inl (omega arith), tt) lt h k

abbrev FlagsPass : Opt → Tests → Type 0
FlagsPass o tests = is_plain o ≡ false → AllPass tests.flags (8 ∷ 16 ∷ 24 ∷ 32 ∷ 40 ∷ 48 ∷ 56 ∷ [])

passing-ends : (o : Opt) (mode : Mode) (named : Bool) (f : Family) (tests : Tests) (b : PacketBox) → IsSet 255 b.protocols
    → IsSet 65535 b.destination_ports → FlagsPass o tests → AllPass tests.protocols (6 ∷ 7 ∷ []) → SidesEnd f tests b
    → AllByRecursion (SidesEnd f tests) (passing o mode named b)
passing-ends Plain mode named f tests b protos dports pass six h = (h, tt)
passing-ends Established Stateful named f tests b protos dports pass six h =
    other-connections f tests b tracked h (tracked-ends tests.connections)
passing-ends Established Stateless named f tests b protos dports pass six h = (
  ending h.sources h.destinations (both-ends tests.protocols 255 b.protocols tcp protos h.protocols (tcp-ends tests.protocols six.1.0))
      h.source_ports h.destination_ports h.types h.codes (ack-or-rst-ends tests.flags) h.connections,
  (
    ending h.sources h.destinations
        (both-ends tests.protocols 255 b.protocols but_tcp protos h.protocols (but-tcp-ends tests.protocols six.0)) h.source_ports
        (ports-end tests.destination_ports named b.destination_ports dports h.destination_ports) h.types h.codes h.flags h.connections,
    tt,
  ),
)
passing-ends TcpEstablished Stateful named f tests b protos dports pass six h =
    other-connections f tests b tracked h (tracked-ends tests.connections)
passing-ends TcpEstablished Stateless named f tests b protos dports pass six h =
    other-flags f tests b ack_or_rst h (ack-or-rst-ends tests.flags)
passing-ends TcpInitial mode named f tests b protos dports pass six h =
    let p = pass refl in
    other-flags f tests b initial h
    (λ x lt a k. ended tests.flags 63 x initial.ranges (inr p.1.0, (inr p.1.1.1.0, tt)) lt a k)
passing-ends Rst mode named f tests b protos dports pass six h =
    let p = pass refl in
    other-flags f tests b rst h
    (λ x lt a k. ended tests.flags 63 x rst.ranges (inr p.1.1.1.0, (inl (omega arith), tt)) lt a k)

pub terms-end : TermsEndWithSets
unfolding boxes_of
terms-end f tests mode t h =
    all-flat (SidesEnd f tests) (λ pair. passing t.option mode t.dport_named (pair_box f t pair))
    (λ pair. passing-ends t.option mode t.dport_named f tests (pair_box f t pair) (protocols-set f t) (dports-set pair.ports t) h.flags
    h.named_protocols.1 (pair-ends f tests mode t pair h)) (pairs_of t)

-- ---- what fails

addresses-end : (f : Family) (tests : Tests) (mode : Mode) (t : Term) → PassAll f tests mode t
    → AllByRecursion (SidesEnd f tests) (failing_addresses f t)
addresses-end f tests mode t h = by t.addr_named
  where
    by : (b : Bool) → AllByRecursion (SidesEnd f tests) (cond b (record (everything f) { sources = outside (either_in f t); destinations = outside (either_in f t) } ∷ []) [])
    by true =
        let e = everything-ends f tests in (
          ending (outside-ends tests.sources (top_address f) (either_in f t) (either-set f t) h.sources)
              (outside-ends tests.destinations (top_address f) (either_in f t) (either-set f t) h.destinations) e.protocols e.source_ports
              e.destination_ports e.types e.codes e.flags e.connections,
          tt,
        )
    by false = tt

either-ports-end : (f : Family) (tests : Tests) (mode : Mode) (t : Term) → PassAll f tests mode t
    → AllByRecursion (SidesEnd f tests) (failing_ports f t)
either-ports-end f tests mode t h = by t.port_named
  where
    by : (b : Bool) → AllByRecursion (SidesEnd f tests) (cond b (record (everything f) { source_ports = outside t.ports; destination_ports = outside t.ports } ∷ []) [])
    by true =
        let e = everything-ends f tests in (
          ending e.sources e.destinations e.protocols (outside-ends tests.source_ports 65535 t.ports (ports-set t) h.source_ports)
              (outside-ends tests.destination_ports 65535 t.ports (ports-set t) h.destination_ports) e.types e.codes e.flags e.connections,
          tt,
        )
    by false = tt

neither-ends : (test : ℕ → Bool) → test 16 ≡ true → EndsBefore test 63 neither_ack_nor_rst
neither-ends test e = λ x lt h k. ended test 63 x neither_ack_nor_rst.ranges (inr e, tt) lt h k

untracked-ends : (test : ℕ → Bool) → test 2 ≡ true → EndsBefore test 3 untracked
untracked-ends test e = λ x lt h k. ended test 3 x untracked.ranges (inr e, tt) lt h k

new-ends : (f : Family) (tests : Tests) (named : Bool) → AllPass tests.protocols (6 ∷ 7 ∷ []) → tests.flags 16 ≡ true
    → tests.destination_ports 1024 ≡ true → AllByRecursion (SidesEnd f tests) (seeming_new f named)
new-ends f tests named six flag client =
    let e = everything-ends f tests in (
      ending e.sources e.destinations (tcp-ends tests.protocols six.1.0) e.source_ports e.destination_ports e.types e.codes
          (neither-ends tests.flags flag) e.connections,
      by named,
    )
  where
    by : (b : Bool) → AllByRecursion (SidesEnd f tests) (cond b [] (record (everything f) { protocols = but_tcp; destination_ports = server_ports } ∷ []))
    by true = tt
    by false =
        let e = everything-ends f tests in (
          ending e.sources e.destinations (but-tcp-ends tests.protocols six.0) e.source_ports
              (λ x lt h k. ended tests.destination_ports 65535 x server_ports.ranges (inr client, tt) lt h k) e.types e.codes e.flags
              e.connections,
          tt,
        )

failing-ends : (o : Opt) (mode : Mode) (named : Bool) (f : Family) (tests : Tests) → FlagsPass o tests
    → AllPass tests.protocols (6 ∷ 7 ∷ []) → tests.destination_ports 1024 ≡ true → (is_stateful mode ≡ true → tests.connections 2 ≡ true)
    → AllByRecursion (SidesEnd f tests) (failing o mode named f)
failing-ends Plain mode named f tests pass six client tracks = tt
failing-ends Established Stateful named f tests pass six client tracks =
    other-connections f tests (everything f) untracked (everything-ends f tests) (untracked-ends tests.connections (tracks refl))
failing-ends Established Stateless named f tests pass six client tracks =
    let p = pass refl in new-ends f tests named six p.1.0 client
failing-ends TcpEstablished Stateful named f tests pass six client tracks =
    other-connections f tests (everything f) untracked (everything-ends f tests) (untracked-ends tests.connections (tracks refl))
failing-ends TcpEstablished Stateless named f tests pass six client tracks =
    let p = pass refl in
    other-flags f tests (everything f) neither_ack_nor_rst (everything-ends f tests) (neither-ends tests.flags p.1.0)
failing-ends TcpInitial mode named f tests pass six client tracks =
    let p = pass refl in
    other-flags f tests (everything f) not_initial (everything-ends f tests)
    (λ x lt a k. ended tests.flags 63 x not_initial.ranges (inr p.0, (inr p.1.1.0, (inl (omega arith), tt))) lt a k)
failing-ends Rst mode named f tests pass six client tracks =
    let p = pass refl in
    other-flags f tests (everything f) no_rst (everything-ends f tests)
    (λ x lt a k. ended tests.flags 63 x no_rst.ranges (inr p.1.0, (inr p.1.1.1.1.1.0, tt)) lt a k)

pub failures-end : FailuresEndWithSets
unfolding failing_boxes
failures-end f tests mode t h =
    let e = h.ends in
    all_append (SidesEnd f tests) (failing_addresses f t) (failing_ports f t ++ failing t.option mode t.dport_named f) (addresses-end f tests mode t h)
    (all_append (SidesEnd f tests) (failing_ports f t) (failing t.option mode t.dport_named f) (either-ports-end f tests mode t h)
    (failing-ends t.option mode t.dport_named f tests e.flags e.named_protocols.1 e.client_ports e.connections))

-- ---- bars

-- The numbers just behind the protocols of a bar that stands in both families.
record BarsPass (f : Family) (test : ℕ → Bool) : Type 0 where
  six : test 6 ≡ true
  seventeen : test 17 ≡ true
  sctp : test 132 ≡ true
  icmp : EndsBefore test 255 (but_icmp f)

without-ports-ends : (test : ℕ → Bool) → test 6 ≡ true → test 17 ≡ true → test 132 ≡ true → EndsBefore test 255 without_ports
without-ports-ends test a b c = λ x lt h k.
    ended test 255 x without_ports.ranges (inr a, (inr b, (inr c, (inl (omega arith), tt)))) lt h k

both-families : (f : Family) (tests : Tests) → BarsPass f tests.protocols → AllByRecursion (SidesEnd f tests) (bars_of_both f)
both-families f tests p =
    let e = everything-ends f tests in
    let ports = without-ports-ends tests.protocols p.six p.seventeen p.sctp in (
      ending e.sources e.destinations ports (from-one-ends tests.source_ports 65535) e.destination_ports e.types e.codes e.flags e.connections,
      (
        ending e.sources e.destinations ports e.source_ports (from-one-ends tests.destination_ports 65535) e.types e.codes e.flags e.connections,
        (
          ending e.sources e.destinations (but-tcp-ends tests.protocols p.six) e.source_ports e.destination_ports e.types e.codes
              (from-one-ends tests.flags 63) e.connections,
          (
            ending e.sources e.destinations p.icmp e.source_ports e.destination_ports (from-one-ends tests.types 255) e.codes e.flags e.connections,
            (
              ending e.sources e.destinations p.icmp e.source_ports e.destination_ports e.types (from-one-ends tests.codes 255) e.flags
                  e.connections,
              tt,
            ),
          ),
        ),
      ),
    )

pub bars-end : BarsEnd
unfolding bars
bars-end V4 tests p =
    both-families V4 tests (record {
      six = p.1.0;
      seventeen = p.1.1.0;
      sctp = p.1.1.1.0;
      icmp = λ x lt h k. ended tests.protocols 255 x (but_icmp V4).ranges (inr p.0, (inl (omega arith), tt)) lt h k;
    })
bars-end V6 tests p =
    let e = everything-ends V6 tests in (
      ending e.sources e.destinations
          (λ x lt h k. ended tests.protocols 255 x extension_headers.ranges
          (inr p.0, (inr p.1.1.1.0, (inr p.1.1.1.1.0, (inr p.1.1.1.1.1.1.0, (inr p.1.1.1.1.1.1.1.1.0, (inr p.1.1.1.1.1.1.1.1.1.0, tt)))))) lt h k)
          e.source_ports e.destination_ports e.types e.codes e.flags e.connections,
      both-families V6 tests (record {
        six = p.1.0;
        seventeen = p.1.1.0;
        sctp = p.1.1.1.1.1.1.1.0;
        icmp = λ x lt h k. ended tests.protocols 255 x (but_icmp V6).ranges (inr p.1.1.1.1.1.0, (inl (omega arith), tt)) lt h k;
      }),
    )
