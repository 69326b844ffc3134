-- When a resolved term is empty in a family.
use Rattle.std.proofs.Common.{◌≡◌, ◌≢◌, ◌↔◌, ℕ, ◌+◌, Bool, true, false, not, ◌&&◌, ◌||◌, ◌==◌, List, [], ◌∷◌, length, get_or, inl, inr, refl, arith}
use Rattle.std.specs.Prelude.{Contains}
use Rattle.std.specs.List.{list_all, list_any}
use Rattle.std.proofs.lemmas.Bool.{and_from, and_parts, or_cases, or_from, or_left, or_right, both_ways, false_from_ne_true, eqb-true, eq-eqb}
use Rattle.std.proofs.lemmas.List.Elements.{All-contains, Contains-get_or}
use Rattle.std.proofs.lemmas.List.Sums.{AllPass-from_list_all, list_all-from_AllPass}
use Rattle.acl_packet.specs.declared.addresses.Family.{Family}
use Rattle.acl_packet.specs.declared.packet_fields.Field.TheVariants.{Protocol, SourcePort, DestinationPort}
use Rattle.acl_sets.specs.declared.sets.Range.{Range}
use Rattle.acl_sets.specs.Ranges.{Numbers, IsNormal, holds, inside}
use Rattle.acl_sets.proofs.RangeLaws.{ends_of, in_range, first-holds}
use Rattle.acl_sets.proofs.ComputableSetLaws.{covers-holds}
use Rattle.acl_terms.specs.declared.sides.SidePair.{SidePair}
use Rattle.acl_terms.specs.declared.terms.Term.{Term}
use Rattle.acl_terms.specs.Matching.{AnyOf}
use Rattle.acl_packet.specs.Packets.{foreign_of}
use Rattle.acl_terms.specs.Resolved.{HasNone, IsEmptyIn, IsPairEmpty, destination_in, destinations_on, dports_on, either_in, has_no_protocol, has_none, is_empty_in, is_just, is_pair_empty, pair_sets, pairs_of, source_in, sources_on, sports_on}
use Rattle.acl_sets.specs.ComputableSets.{is_all}
use Rattle.acl_terms.proofs.SideLaws.{destination-cut-normal, destination-normal, destination_tops, dport_tops, either-normal, none-held, source-cut-normal, source-normal, source_tops, sport_tops}
use Rattle.acl_terms.proofs.TestLaws.{true-not}

just-held : (k : ℕ) (rs : List Range) (x : ℕ) → list_all (is_just k) rs ≡ true → holds rs x ≡ true → x ≡ k
just-held k [] x a h = absurd (both_ways false refl h)
just-held k (r ∷ rs) x a h =
    let p = and_parts (is_just k r) (list_all (is_just k) rs) a in
    elim (or_cases (inside r x) (holds rs x) h) [
      | inl i ↦ let e = ends_of r.low r.high x i in
          let q = and_parts (r.low == k) (r.high == k) p.0 in
          let low : r.low ≡ k = eqb-true r.low k q.0 in
          let high : r.high ≡ k = eqb-true r.high k q.1 in
          omega arith
      | inr i ↦ just-held k rs x p.1 i
    ]

all-just : (k f top : ℕ) (rs : List Range) → IsNormal f top rs → ((x : ℕ) → holds rs x ≡ true → x ≡ k)
    → list_all (is_just k) rs ≡ true
all-just k f top [] n h = refl
all-just k f top (r ∷ rs) n h =
    let low : r.low ≡ k = h r.low (first-holds f top r rs n) in
    let high : r.high ≡ k = h r.high (or_left (inside r r.high) (holds rs r.high)
    (in_range r.low r.high r.high n.1 (omega arith))) in
    and_from (is_just k r) (list_all (is_just k) rs)
    (and_from (r.low == k) (r.high == k) (eq-eqb r.low k low) (eq-eqb r.high k high))
    (all-just k (r.high + 2) top rs n.3 (λ x e. h x (or_right (inside r x) (holds rs x) e)))

shut : (h a e : Bool) → a ≡ false → (h ≡ true → e ≡ true) → (h && (a || not e)) ≡ false
shut false a e p q = refl
shut true true e p q = absurd (both_ways true p refl)
shut true false true p q = refl
shut true false false p q = absurd (both_ways false refl (q refl))

open-all : (h a e : Bool) → h ≡ true → a ≡ true → (h && (a || not e)) ≡ true
open-all true true e p q = refl
open-all true false e p q = absurd (both_ways false refl q)
open-all false a e p q = absurd (both_ways false refl p)

held : (h a e : Bool) → (h && (a || not e)) ≡ false → a ≡ false → h ≡ true → e ≡ true
held true true e p q r = absurd (both_ways true q refl)
held true false true p q r = refl
held true false false p q r = absurd (both_ways true p refl)
held false a e p q r = absurd (both_ways false refl r)

-- No protocol but one is in the set, and that one is not of the family.
no-protocol : (k : ℕ) (s : Numbers) → IsNormal 0 s.top s.ranges
    → ((not (is_all s) && list_all (is_just k) s.ranges) ≡ true)
    ↔ ((x : ℕ) → (holds s.ranges x && (is_all s || not (x == k))) ≡ false)
no-protocol k s normal = (
  λ h. let p = and_parts (not (is_all s)) (list_all (is_just k) s.ranges) h in
      λ x. shut (holds s.ranges x) (is_all s) (x == k) ((true-not (is_all s)).0 p.0)
      (λ e. eq-eqb x k (just-held k s.ranges x p.1 e)),
  λ h. let part : is_all s ≡ false = false_from_ne_true (is_all s)
      (λ t. both_ways (holds s.ranges 0 && (is_all s || not (0 == k))) (h 0)
      (open-all (holds s.ranges 0) (is_all s) (0 == k)
      (covers-holds s.ranges 0 s.top 0 t (omega arith) (omega arith)) t)) in
      and_from (not (is_all s)) (list_all (is_just k) s.ranges) ((true-not (is_all s)).1 part)
      (all-just k 0 s.top s.ranges normal
      (λ x e. eqb-true x k (held (holds s.ranges x) (is_all s) (x == k) (h x) part e))),
)

-- ---- lists of tests

none-of : {A : Type 0} (test : A → Bool) (P : A → Type 0) → (list_any test [] ≡ true) ↔ AnyOf P []
none-of test P = (λ e. absurd (both_ways false refl e), λ a. absurd a)

one-more : {A : Type 0} (test : A → Bool) (P : A → Type 0) (x : A) (xs : List A) → (test x ≡ true) ↔ P x
    → (list_any test xs ≡ true) ↔ AnyOf P xs → (list_any test (x ∷ xs) ≡ true) ↔ AnyOf P (x ∷ xs)
one-more test P x xs here rest = (
  λ e. elim (or_cases (test x) (list_any test xs) e) [ inl l ↦ inl (here.0 l) | inr r ↦ inr (rest.0 r) ],
  λ a. elim a [
    | inl p ↦ or_left (test x) (list_any test xs) (here.1 p)
    | inr r ↦ or_right (test x) (list_any test xs) (rest.1 r)
  ],
)

-- One of four sets has no number.
none-of-four : (a b c d : Numbers) → IsNormal 0 a.top a.ranges → IsNormal 0 b.top b.ranges
    → IsNormal 0 c.top c.ranges → IsNormal 0 d.top d.ranges
    → (list_any has_none (a ∷ b ∷ c ∷ d ∷ []) ≡ true) ↔ AnyOf HasNone (a ∷ b ∷ c ∷ d ∷ [])
none-of-four a b c d n m k l =
    let none : Numbers → Type 0 = λ s. HasNone s in
    let last = one-more has_none none d [] (none-held d l) (none-of has_none none) in
    let three = one-more has_none none c (d ∷ []) (none-held c k) last in
    let two = one-more has_none none b (c ∷ d ∷ []) (none-held b m) three in
    one-more has_none none a (b ∷ c ∷ d ∷ []) (none-held a n) two

all-law : {A : Type 0} (test : A → Bool) (P : A → Type 0) (xs : List A) → ((x : A) → (test x ≡ true) ↔ P x)
    → (list_all test xs ≡ true) ↔ ((x : A) → Contains xs x → P x)
all-law test P xs each = (
  λ h x within. (each x).0 (All-contains (λ t. test t ≡ true) xs x (AllPass-from_list_all test xs h) within),
  λ w. list_all-from_AllPass test xs (λ k d within. (each (get_or xs k d)).1
      (w (get_or xs k d) (Contains-get_or xs k d within))),
)

-- ---- pairs of sides

pub pair-empty-law : (f : Family) (t : Term) (pair : SidePair) → (is_pair_empty f t pair ≡ true) ↔ IsPairEmpty f t pair
pair-empty-law f t pair =
    let a = pair.addresses in
    let p = pair.ports in
    let either = either_in f t in
    let sets = none-of-four (sources_on a f t) (destinations_on a f t) (sports_on p t) (dports_on p t)
    (source-cut-normal a (source_in f t) either (source_tops f t) (source-normal f t) (either-normal f t))
    (destination-cut-normal a (destination_in f t) either (destination_tops f t) (destination-normal f t)
    (either-normal f t))
    (source-cut-normal p t.sports t.ports (sport_tops t) (t.sound.normal SourcePort) t.sound.ports_normal)
    (destination-cut-normal p t.dports t.ports (dport_tops t) (t.sound.normal DestinationPort) t.sound.ports_normal) in
    let c = no-protocol (foreign_of f) t.protos (t.sound.normal Protocol) in
    let none : Bool = list_any has_none (pair_sets f t pair) in (
      λ h. elim (or_cases none (has_no_protocol f t) h) [ inl l ↦ inl (sets.0 l) | inr r ↦ inr (c.0 r) ],
      λ w. elim w [
        | inl l ↦ or_left none (has_no_protocol f t) (sets.1 l)
        | inr r ↦ or_right none (has_no_protocol f t) (c.1 r)
      ],
    )

some-held : (s : Numbers) → s.ranges ≢ [] → has_none s ≡ false
some-held s some = counted s.ranges some
  where
    counted : (rs : List Range) → rs ≢ [] → (length rs == 0) ≡ false
    counted [] h = absurd (h refl)
    counted (r ∷ rs) h =
        false_from_ne_true (length (r ∷ rs) == 0) (λ e. absurd (omega (arith, eqb-true (length (r ∷ rs)) 0 e)))

-- A term has some source ports and some destination ports.
pub some-ports : (t : Term) → (has_none t.sports || has_none t.dports) ≡ false
some-ports t = or_from (has_none t.sports) (has_none t.dports) (some-held t.sports (t.sound.some SourcePort refl))
    (some-held t.dports (t.sound.some DestinationPort refl))

pub empty-law : (f : Family) (t : Term) → (is_empty_in f t ≡ true) ↔ IsEmptyIn f t
unfolding is_empty_in
empty-law f t = all-law (is_pair_empty f t) (IsPairEmpty f t) (pairs_of t) (pair-empty-law f t)

-- The tests of its protocols.
pub protocol_tests : (a b : Bool) → (a && b) ≡ (b && a)
protocol_tests true true = refl
protocol_tests true false = refl
protocol_tests false true = refl
protocol_tests false false = refl

-- The tests of a pair's sets, addresses and ports apart.
pub pair_tests : (a b c d e : Bool) → (((a || b) || (c || d)) || e) ≡ ((a || (b || (c || (d || false)))) || e)
pair_tests true b c d e = refl
pair_tests false true c d e = refl
pair_tests false false true d e = refl
pair_tests false false false true e = refl
pair_tests false false false false e = refl
