-- The sides of a term's boxes: what they hold, and that they are sets of numbers of their coordinates.
use Rattle.acl_text.specs.declared.texts.Memory.{Memory}
use Rattle.std.proofs.Common.{◌≡◌, ℕ, ◌≤◌, Bool, true, false, cond, not, ◌&&◌, ◌||◌, ◌==◌, nat_le, List, [], ◌∷◌, ◌++◌, flat_map, refl, ap, sym, ◌∙◌, arith, ◌<◌, ◌⊎◌, inl, inr, subst, Result, Ok, Err, IfOk}
use Rattle.std.specs.List.{AllByRecursion}
use Rattle.std.proofs.lemmas.Bool.{both_ways, eq-eqb, eqb-true, false_from_ne_true, le-leb, and_right, cases_lt}
use Rattle.acl_packet.specs.declared.addresses.Family.{Family}
use Rattle.acl_packet.specs.declared.addresses.Family.TheVariants.{V4, V6}
use Rattle.acl_packet.specs.declared.packet_fields.Field.{Field}
use Rattle.acl_packet.specs.declared.packet_fields.Field.TheVariants.{Protocol, SourcePort, DestinationPort, IcmpType, IcmpCode}
use Rattle.acl_packet.specs.Addresses.{top_address}
use Rattle.acl_packet.specs.Packets.{foreign_of, top_of}
use Rattle.acl_sets.specs.ComputableSets.{cut_all, is_all, shared_all}
use Rattle.acl_sets.specs.Ranges.{IsRange, Numbers, holds, IsNormal}
use Rattle.acl_sets.proofs.ComputableSetLaws.{covers-holds, cut_all-holds, cut_all-normal, intersection-computed}
use Rattle.acl_sets.proofs.RangeLaws.{are_ranges, ends_of, in_range, past_top}
use Rattle.acl_text.proofs.ListLaws.{all_append}
use Rattle.acl_terms.specs.declared.options.Mode.{Mode}
use Rattle.acl_terms.specs.declared.options.Mode.TheVariants.{Stateful, Stateless}
use Rattle.acl_terms.specs.declared.options.Opt.{Opt}
use Rattle.acl_terms.specs.declared.options.Opt.TheVariants.{Plain, Established, TcpEstablished, TcpInitial, Rst}
use Rattle.acl_terms.specs.declared.sides.Side.{Side}
use Rattle.acl_terms.specs.declared.sides.Side.TheVariants.{Whole, Source, Destination}
use Rattle.acl_terms.specs.declared.sides.SidePair.{SidePair}
use Rattle.acl_terms.specs.declared.terms.Term.{Term}
use Rattle.acl_terms.specs.Resolved.{destination_in, destinations_on, dports_on, either_in, has_protocol, in_both, pairs_of, set_in, source_in, sources_on, sports_on}
use Rattle.acl_terms.proofs.SideLaws.{both-holds, both-normal}
use Rattle.term_boxes.specs.declared.boxes.PacketBox.{PacketBox}
use Rattle.term_boxes.specs.Boxes.{IsBox, IsSet, everything}
use Rattle.term_boxes.specs.NumberSets.{ack_or_rst, but_tcp, client_ports, initial, neither_ack_nor_rst, no_rst, not_initial, outside, rst, run, server_ports, set_of, tcp, tracked, untracked}
use Rattle.term_boxes.specs.TermBoxes.{TermsHaveBoxes, boxes_of, established_ports, failing, failing_addresses, failing_boxes, failing_ports, pair_box, passing, protocols_in, seeming_new}
use Rattle.term_boxes.proofs.HeldNumbers.{up-to-holds}
use Rattle.term_boxes.proofs.SideSets.{but-tcp-set, not-initial-set, one-run, outside-set, sides, two-runs, up-to-set}

-- ---- a set that has all numbers, with another one

with_all : (s e : Numbers) → s.top ≡ e.top → IsNormal 0 s.top s.ranges → IsNormal 0 e.top e.ranges → is_all s ≡ true → e.ranges ≡ shared_all e.ranges s.ranges
with_all s e tops n m all =
    let k : IsNormal 0 s.top e.ranges = subst (λ top. IsNormal 0 top e.ranges) (sym tops) m in
    intersection-computed s.top s.ranges e.ranges e.ranges n k k (λ x. by_top x (cases_lt s.top x)) where
      by_top : (x : ℕ) → (s.top < x) ⊎ (x ≤ s.top) → holds e.ranges x ≡ (holds s.ranges x && holds e.ranges x)
      by_top x (inl past) =
          let none : holds e.ranges x ≡ false = past_top 0 e.top e.ranges x m (omega (arith, tops, past)) in
          none ∙ sym (ap (λ b. holds s.ranges x && b) none ∙ and_right (holds s.ranges x) false refl)
      by_top x (inr within) = sym (ap (λ b. b && holds e.ranges x) (covers-holds s.ranges 0 s.top x all (omega arith) within))

-- What is shared of the other set is what both have.
pub all_shared : (s e : Numbers) → s.top ≡ e.top → IsNormal 0 s.top s.ranges → is_all s ≡ true → (r : Result Numbers Memory)
    → IfOk r (λ u. u ≡ e) → IfOk r (λ u. IsNormal 0 u.top u.ranges) → IfOk r (λ u. u ≡ in_both s e)
all_shared s e tops n all (Ok u) same normal =
    let m : IsNormal 0 e.top e.ranges = subst (λ (v : Numbers). IsNormal 0 v.top v.ranges) same normal in
    same ∙ ap (λ rs. record { top = e.top; ranges = rs }) (with_all s e tops n m all) ∙ ap (λ top. record { top = top; ranges = shared_all e.ranges s.ranges }) (sym tops)
all_shared s e tops n all (Err memory) same normal = tt

-- ---- sets of a term

both-set : (top : ℕ) (s e : Numbers) → IsSet top s → IsSet top e → IsSet top (in_both s e)
both-set top s e h k = record { top_is = h.top_is; normal = both-normal s e (h.top_is ∙ sym k.top_is) h.normal k.normal }

pub source-set : (f : Family) (t : Term) → IsSet (top_address f) (source_in f t)
source-set V4 t = record { top_is = t.sound.src4_top; normal = t.sound.src4_normal }
source-set V6 t = record { top_is = t.sound.src6_top; normal = t.sound.src6_normal }

pub destination-set : (f : Family) (t : Term) → IsSet (top_address f) (destination_in f t)
destination-set V4 t = record { top_is = t.sound.dst4_top; normal = t.sound.dst4_normal }
destination-set V6 t = record { top_is = t.sound.dst6_top; normal = t.sound.dst6_normal }

pub either-set : (f : Family) (t : Term) → IsSet (top_address f) (either_in f t)
either-set V4 t = record { top_is = t.sound.addr4_top; normal = t.sound.addr4_normal }
either-set V6 t = record { top_is = t.sound.addr6_top; normal = t.sound.addr6_normal }

pub ports-set : (t : Term) → IsSet 65535 t.ports
ports-set t = record { top_is = t.sound.ports_top; normal = t.sound.ports_normal }

sources-set : (side : Side) (f : Family) (t : Term) → IsSet (top_address f) (sources_on side f t)
sources-set Whole f t = source-set f t
sources-set Source f t = both-set (top_address f) (source_in f t) (either_in f t) (source-set f t) (either-set f t)
sources-set Destination f t = source-set f t

destinations-set : (side : Side) (f : Family) (t : Term) → IsSet (top_address f) (destinations_on side f t)
destinations-set Whole f t = destination-set f t
destinations-set Source f t = destination-set f t
destinations-set Destination f t =
    both-set (top_address f) (destination_in f t) (either_in f t) (destination-set f t) (either-set f t)

pub own : (t : Term) (field : Field) → IsSet (top_of field) (set_in field t)
own t field = record { top_is = t.sound.tops field; normal = t.sound.normal field }

sports-set : (side : Side) (t : Term) → IsSet 65535 (sports_on side t)
sports-set Whole t = own t SourcePort
sports-set Source t = both-set 65535 t.sports t.ports (own t SourcePort) (ports-set t)
sports-set Destination t = own t SourcePort

pub dports-set : (side : Side) (t : Term) → IsSet 65535 (dports_on side t)
dports-set Whole t = own t DestinationPort
dports-set Source t = own t DestinationPort
dports-set Destination t =
    both-set 65535 t.dports t.ports (own t DestinationPort) (ports-set t)

just-range : (n : ℕ) → AllByRecursion (λ r. IsRange n r) (run n n ∷ [])
just-range n = ((omega arith, omega arith), tt)

pub protocols-set : (f : Family) (t : Term) → IsSet 255 (protocols_in f t)
protocols-set f t = by (is_all t.protos)
  where
    by : (b : Bool) → IsSet 255 (cond b t.protos (set_of t.protos.top (cut_all (run (foreign_of f) (foreign_of f) ∷ []) t.protos.ranges)))
    by true = own t Protocol
    by false = record {
      top_is = t.sound.tops Protocol;
      normal = cut_all-normal 0 t.protos.top (foreign_of f) (run (foreign_of f) (foreign_of f) ∷ []) t.protos.ranges
          (just-range (foreign_of f)) (t.sound.normal Protocol);
    }

-- ---- what they hold

pub and-true : (a : Bool) → (a && true) ≡ a
and-true true = refl
and-true false = refl

pub or-false : (a : Bool) → (a || false) ≡ a
or-false true = refl
or-false false = refl

inside-just : (n x : ℕ) (b : Bool) → (x == n) ≡ b → (nat_le n x && nat_le x n) ≡ b
inside-just n x true e = let s : x ≡ n = eqb-true x n e in in_range n n x (omega arith) (omega arith)
inside-just n x false e =
    false_from_ne_true (nat_le n x && nat_le x n) (λ h. let s = ends_of n n x h in
    let q : x ≡ n = omega arith in both_ways (x == n) e (eq-eqb x n q))

just-holds : (n x : ℕ) → holds (run n n ∷ []) x ≡ (x == n)
just-holds n x = or-false (nat_le n x && nat_le x n) ∙ inside-just n x (x == n) refl

pub protocol-holds : (f : Family) (t : Term) (n : ℕ) → holds (protocols_in f t).ranges n ≡ has_protocol f t n
protocol-holds f t n = by (is_all t.protos)
  where
    by : (b : Bool) → holds (cond b t.protos (set_of t.protos.top (cut_all (run (foreign_of f) (foreign_of f) ∷ []) t.protos.ranges))).ranges n
        ≡ (holds t.protos.ranges n && (b || not (n == foreign_of f)))
    by true = sym (and-true (holds t.protos.ranges n))
    by false =
        let k = foreign_of f in
        cut_all-holds 0 t.protos.top k (run k k ∷ []) t.protos.ranges n (just-range k) (t.sound.normal Protocol)
        ∙ ap (λ b. holds t.protos.ranges n && not b) (just-holds k n)

pub shared-holds : (top : ℕ) (s e : Numbers) (x : ℕ) → IsSet top s → holds (in_both s e).ranges x ≡ (holds s.ranges x && holds e.ranges x)
shared-holds top s e x h = both-holds s e x h.normal

pub ports-left : (named : Bool) (s : Numbers) (x : ℕ) → IsSet 65535 s → x ≤ 65535
    → holds (established_ports named s).ranges x ≡ (holds s.ranges x && (named || nat_le 1024 x))
ports-left true s x h le = sym (and-true (holds s.ranges x))
ports-left false s x h le =
    shared-holds 65535 s client_ports x h
    ∙ ap (λ b. holds s.ranges x && b) (or-false (nat_le 1024 x && nat_le x 65535) ∙ ap (λ b. nat_le 1024 x && b) (le-leb x 65535 le) ∙ and-true (nat_le 1024 x))

pub outside-holds : (top : ℕ) (s : Numbers) (x : ℕ) → IsSet top s → x ≤ top → holds (outside s).ranges x ≡ not (holds s.ranges x)
outside-holds top s x h le =
    let same = h.top_is in
    cut_all-holds 0 s.top s.top s.ranges (run 0 s.top ∷ []) x (are_ranges 0 s.top s.ranges h.normal) (omega arith, omega arith, omega arith, tt)
    ∙ ap (λ b. b && not (holds s.ranges x)) (up-to-holds s.top x (omega (arith, le, same)))

-- Where nothing is asked of either address, each is one of which it might be.
pub either-all : (f : Family) (t : Term) (x : ℕ) → t.addr_named ≡ false → x ≤ top_address f → holds (either_in f t).ranges x ≡ true
either-all V4 t x e h = let top = t.sound.addr4_top in covers-holds t.addr4.ranges 0 t.addr4.top x (t.sound.addr4_named e) (omega arith) (omega (arith, top, h))
either-all V6 t x e h = let top = t.sound.addr6_top in covers-holds t.addr6.ranges 0 t.addr6.top x (t.sound.addr6_named e) (omega arith) (omega (arith, top, h))

pub ports-all : (t : Term) (x : ℕ) → t.port_named ≡ false → x ≤ 65535 → holds t.ports.ranges x ≡ true
ports-all t x e h = let top = t.sound.ports_top in covers-holds t.ports.ranges 0 t.ports.top x (t.sound.ports_named e) (omega arith) (omega (arith, top, h))

-- ---- boxes of a term

pair-is : (f : Family) (t : Term) (pair : SidePair) → IsBox f (pair_box f t pair)
pair-is f t pair =
    sides (sources-set pair.addresses f t) (destinations-set pair.addresses f t) (protocols-set f t) (sports-set pair.ports t)
    (dports-set pair.ports t) (own t IcmpType) (own t IcmpCode) (up-to-set 63) (up-to-set 3)

pub own-protocols : (f : Family) (t : Term) (pair : SidePair) (b : PacketBox) → b ≡ pair_box f t pair → b.protocols.top ≡ 255
own-protocols f t pair b e = ap (λ c. c.protocols.top) e ∙ (protocols-set f t).top_is

pub own-ports : (f : Family) (t : Term) (pair : SidePair) (b : PacketBox) → b ≡ pair_box f t pair → b.destination_ports.top ≡ 65535
own-ports f t pair b e = ap (λ c. c.destination_ports.top) e ∙ (dports-set pair.ports t).top_is

left-ports : (named : Bool) (s : Numbers) → IsSet 65535 s → IsSet 65535 (established_ports named s)
left-ports true s h = h
left-ports false s h = both-set 65535 s client_ports h (one-run 65535 1024 65535 (omega arith) (omega arith))

other-flags : (f : Family) (b : PacketBox) (flags : Numbers) → IsBox f b → IsSet 63 flags → AllByRecursion (IsBox f) (record b { flags = flags } ∷ [])
other-flags f b flags h g =
    (sides h.sources h.destinations h.protocols h.source_ports h.destination_ports h.types h.codes g h.connections, tt)

other-connections : (f : Family) (b : PacketBox) (connections : Numbers) → IsBox f b → IsSet 3 connections
    → AllByRecursion (IsBox f) (record b { connections = connections } ∷ [])
other-connections f b connections h c =
    (sides h.sources h.destinations h.protocols h.source_ports h.destination_ports h.types h.codes h.flags c, tt)

ack-or-rst-set : IsSet 63 ack_or_rst
ack-or-rst-set = one-run 63 16 63 (omega arith) (omega arith)

tracked-set : IsSet 3 tracked
tracked-set = one-run 3 2 3 (omega arith) (omega arith)

tcp-set : IsSet 255 tcp
tcp-set = one-run 255 6 6 (omega arith) (omega arith)

passing-are : (o : Opt) (mode : Mode) (named : Bool) (f : Family) (b : PacketBox) → IsBox f b
    → AllByRecursion (IsBox f) (passing o mode named b)
passing-are Plain mode named f b h = (h, tt)
passing-are Established Stateful named f b h = other-connections f b tracked h tracked-set
passing-are Established Stateless named f b h = (
  sides h.sources h.destinations (both-set 255 b.protocols tcp h.protocols tcp-set) h.source_ports h.destination_ports h.types
      h.codes ack-or-rst-set h.connections,
  (
    sides h.sources h.destinations (both-set 255 b.protocols but_tcp h.protocols but-tcp-set) h.source_ports
        (left-ports named b.destination_ports h.destination_ports) h.types h.codes h.flags h.connections,
    tt,
  ),
)
passing-are TcpEstablished Stateful named f b h = other-connections f b tracked h tracked-set
passing-are TcpEstablished Stateless named f b h = other-flags f b ack_or_rst h ack-or-rst-set
passing-are TcpInitial mode named f b h =
    other-flags f b initial h (two-runs 63 8 15 24 31 (omega arith) (omega arith) (omega arith) (omega arith))
passing-are Rst mode named f b h =
    other-flags f b rst h (two-runs 63 16 31 48 63 (omega arith) (omega arith) (omega arith) (omega arith))

pub all-flat : {A B : Type 0} (P : B → Type 0) (rows : A → List B) → ((x : A) → AllByRecursion P (rows x)) → (xs : List A)
    → AllByRecursion P (flat_map rows xs)
all-flat P rows h [] = tt
all-flat P rows h (x ∷ xs) = all_append P (rows x) (flat_map rows xs) (h x) (all-flat P rows h xs)

-- ---- boxes in which a term fails

addresses-are : (f : Family) (t : Term) → AllByRecursion (IsBox f) (failing_addresses f t)
addresses-are f t = by t.addr_named
  where
    by : (b : Bool) → AllByRecursion (IsBox f) (cond b (record (everything f) { sources = outside (either_in f t); destinations = outside (either_in f t) } ∷ []) [])
    by true =
        let o = outside-set (top_address f) (either_in f t) (either-set f t) in
        let p = up-to-set 65535 in
        let b = up-to-set 255 in
        (sides o o b p p b b (up-to-set 63) (up-to-set 3), tt)
    by false = tt

ports-are : (f : Family) (t : Term) → AllByRecursion (IsBox f) (failing_ports f t)
ports-are f t = by t.port_named
  where
    by : (b : Bool) → AllByRecursion (IsBox f) (cond b (record (everything f) { source_ports = outside t.ports; destination_ports = outside t.ports } ∷ []) [])
    by true =
        let o = outside-set 65535 t.ports (ports-set t) in
        let a = up-to-set (top_address f) in
        let b = up-to-set 255 in
        (sides a a b o o b b (up-to-set 63) (up-to-set 3), tt)
    by false = tt

everything-is : (f : Family) → IsBox f (everything f)
everything-is f =
    let a = up-to-set (top_address f) in
    let p = up-to-set 65535 in
    let b = up-to-set 255 in
    sides a a b p p b b (up-to-set 63) (up-to-set 3)

neither-set : IsSet 63 neither_ack_nor_rst
neither-set = one-run 63 0 15 (omega arith) (omega arith)

untracked-set : IsSet 3 untracked
untracked-set = one-run 3 0 1 (omega arith) (omega arith)

seeming-new-are : (f : Family) (named : Bool) → AllByRecursion (IsBox f) (seeming_new f named)
seeming-new-are f named =
    let h = everything-is f in (
      sides h.sources h.destinations tcp-set h.source_ports h.destination_ports h.types h.codes neither-set h.connections,
      by named,
    )
  where
    by : (b : Bool) → AllByRecursion (IsBox f) (cond b [] (record (everything f) { protocols = but_tcp; destination_ports = server_ports } ∷ []))
    by true = tt
    by false =
        let h = everything-is f in (
          sides h.sources h.destinations but-tcp-set h.source_ports (one-run 65535 0 1023 (omega arith) (omega arith)) h.types
              h.codes h.flags h.connections,
          tt,
        )

failing-are : (o : Opt) (mode : Mode) (named : Bool) (f : Family) → AllByRecursion (IsBox f) (failing o mode named f)
failing-are Plain mode named f = tt
failing-are Established Stateful named f = other-connections f (everything f) untracked (everything-is f) untracked-set
failing-are Established Stateless named f = seeming-new-are f named
failing-are TcpEstablished Stateful named f = other-connections f (everything f) untracked (everything-is f) untracked-set
failing-are TcpEstablished Stateless named f = other-flags f (everything f) neither_ack_nor_rst (everything-is f) neither-set
failing-are TcpInitial mode named f = other-flags f (everything f) not_initial (everything-is f) not-initial-set
failing-are Rst mode named f =
    other-flags f (everything f) no_rst (everything-is f) (two-runs 63 0 15 32 47 (omega arith) (omega arith) (omega arith) (omega arith))

pub have-boxes : TermsHaveBoxes
unfolding boxes_of failing_boxes
have-boxes f mode t = record {
  own = pair-is f t (record { addresses = Whole; ports = Whole });
  matching = all-flat (IsBox f) (λ pair. passing t.option mode t.dport_named (pair_box f t pair))
      (λ pair. passing-are t.option mode t.dport_named f (pair_box f t pair) (pair-is f t pair)) (pairs_of t);
  excluded = all_append (IsBox f) (failing_addresses f t) (failing_ports f t ++ failing t.option mode t.dport_named f) (addresses-are f t)
      (all_append (IsBox f) (failing_ports f t) (failing t.option mode t.dport_named f) (ports-are f t)
      (failing-are t.option mode t.dport_named f));
}
