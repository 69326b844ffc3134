-- What two sets share, and the sets of a term on its sides.
use Rattle.std.proofs.Common.{◌≡◌, ◌↔◌, ℕ, ◌+◌, ◌≤◌, Bool, true, false, not, ◌&&◌, ◌||◌, List, [], ◌∷◌, inl, inr, refl, sym, ◌∙◌, subst, arith}
use Rattle.std.specs.List.{list_any}
use Rattle.std.proofs.lemmas.Bool.{and_from, and_parts, or_cases, or_left, or_right, both_ways, false_from_ne_true, cases_lt}
use Rattle.acl_packet.specs.declared.addresses.Family.{Family}
use Rattle.acl_packet.specs.declared.addresses.Family.TheVariants.{V4, V6}
use Rattle.acl_packet.specs.declared.packet_fields.Field.TheVariants.{Protocol, SourcePort, DestinationPort}
use Rattle.acl_sets.specs.declared.sets.Range.{Range}
use Rattle.acl_sets.specs.Ranges.{Numbers, IsNormal, holds, inside}
use Rattle.acl_sets.specs.ComputableSets.{shared_all}
use Rattle.acl_sets.proofs.RangeLaws.{ends_of, in_range, first-holds, empty-holds, none-empty}
use Rattle.acl_sets.proofs.ComputableSetLaws.{shared_all-holds, shared_all-normal}
use Rattle.acl_terms.specs.declared.sides.Side.{Side}
use Rattle.acl_terms.specs.declared.sides.Side.TheVariants.{Whole, Source, Destination}
use Rattle.acl_terms.specs.declared.terms.Term.{Term}
use Rattle.acl_terms.specs.Resolved.{destination_cut, destination_in, either_in, has_none, in_both, source_cut, source_in}
use Rattle.acl_terms.specs.SetSteps.{meet}
use Rattle.acl_terms.proofs.TestLaws.{true-not}

-- ---- two sets

-- A number of a set is in one of its ranges, and where this one passes a test, some range does.
at : (rs : List Range) (x : ℕ) → holds rs x ≡ true
    → (r : Range) × ((r.low ≤ x) × (x ≤ r.high)) × ((test : Range → Bool) → test r ≡ true → list_any test rs ≡ true)
at [] x h = absurd (both_ways false refl h)
at (r ∷ rs) x h = elim (or_cases (inside r x) (holds rs x) h) [
  | inl i ↦ (r, ends_of r.low r.high x i, λ test t. or_left (test r) (list_any test rs) t)
  | inr i ↦ let p = at rs x i in (p.0, p.1, λ test t. or_right (test r) (list_any test rs) (p.2 test t))
]

-- Of two ranges with a common number, one begins in the other.
meet-yes : (s e : List Range) (x : ℕ) → holds s x ≡ true → holds e x ≡ true
    → (list_any (λ r. holds s r.low) e || list_any (λ r. holds e r.low) s) ≡ true
meet-yes s e x hs he =
    let p = at s x hs in
    let q = at e x he in
    let u = p.1 in
    let v = q.1 in
    let a : Bool = list_any (λ (r : Range). holds s r.low) e in
    let b : Bool = list_any (λ (r : Range). holds e r.low) s in
    elim (cases_lt p.0.low q.0.low) [
      | inl l ↦ or_left a b (q.2 (λ r. holds s r.low)
          (p.2 (λ r. inside r q.0.low) (in_range p.0.low p.0.high q.0.low (omega arith) (omega arith))))
      | inr l ↦ or_right a b (p.2 (λ r. holds e r.low)
          (q.2 (λ r. inside r p.0.low) (in_range q.0.low q.0.high p.0.low (omega arith) (omega arith))))
    ]

-- The first number of a range that passes a test is one of the set.
begins : (test : ℕ → Bool) (f top : ℕ) (rs : List Range) → IsNormal f top rs
    → list_any (λ r. test r.low) rs ≡ true → (x : ℕ) × (test x ≡ true) × (holds rs x ≡ true)
begins test f top [] n h = absurd (both_ways false refl h)
begins test f top (r ∷ rs) n h = elim (or_cases (test r.low) (list_any (λ (q : Range). test q.low) rs) h) [
  | inl p ↦ (r.low, p, first-holds f top r rs n)
  | inr t ↦ let b = begins test (r.high + 2) top rs n.3 t in
      (b.0, b.1, or_right (inside r b.0) (holds rs b.0) b.2)
]

pub both-normal : (s e : Numbers) → s.top ≡ e.top → IsNormal 0 s.top s.ranges → IsNormal 0 e.top e.ranges
    → IsNormal 0 (in_both s e).top (in_both s e).ranges
both-normal s e tops n m = subst (λ k. IsNormal 0 k (shared_all e.ranges s.ranges)) (sym tops)
    (shared_all-normal 0 e.top 0 s.top e.ranges s.ranges m n)

-- The numbers of both sets are those that the one and the other hold.
pub both-holds : (s e : Numbers) (x : ℕ) → IsNormal 0 s.top s.ranges
    → holds (in_both s e).ranges x ≡ (holds s.ranges x && holds e.ranges x)
both-holds s e x n = shared_all-holds 0 s.top e.ranges s.ranges x n

pub none-held : (s : Numbers) → IsNormal 0 s.top s.ranges → (has_none s ≡ true) ↔ ((x : ℕ) → holds s.ranges x ≡ false)
none-held s normal = (
  λ h x. empty-holds s.ranges x h,
  λ h. none-empty 0 s.top s.ranges normal (λ x _. h x),
)

same : (a b : Bool) → (a ≡ true → b ≡ true) → (b ≡ true → a ≡ true) → a ≡ b
same true b h k = sym (h refl)
same false true h k = k refl
same false false h k = refl

shared-out : (s e : Numbers) (x : ℕ) → IsNormal 0 s.top s.ranges → has_none (in_both s e) ≡ true
    → holds s.ranges x ≡ true → holds e.ranges x ≡ true → ⊥
shared-out s e x n none hs he =
    both_ways (holds (in_both s e).ranges x) (empty-holds (in_both s e).ranges x none)
    (both-holds s e x n ∙ and_from (holds s.ranges x) (holds e.ranges x) hs he)

apart-from : (s e : Numbers) → IsNormal 0 s.top s.ranges → IsNormal 0 e.top e.ranges
    → has_none (in_both s e) ≡ true → not (meet s e) ≡ true
apart-from s e n m none =
    let a : Bool = list_any (λ (r : Range). holds s.ranges r.low) e.ranges in
    let b : Bool = list_any (λ (r : Range). holds e.ranges r.low) s.ranges in
    (true-not (meet s e)).1 (false_from_ne_true (meet s e) (λ h. elim (or_cases a b h) [
      | inl l ↦ let x = begins (λ y. holds s.ranges y) 0 e.top e.ranges m l in shared-out s e x.0 n none x.1 x.2
      | inr r ↦ let x = begins (λ y. holds e.ranges y) 0 s.top s.ranges n r in shared-out s e x.0 n none x.2 x.1
    ]))

-- Two sets are apart where no number is in both.
pub apart_law : (s e : Numbers) → s.top ≡ e.top → IsNormal 0 s.top s.ranges → IsNormal 0 e.top e.ranges
    → not (meet s e) ≡ has_none (in_both s e)
apart_law s e tops n m = same (not (meet s e)) (has_none (in_both s e))
    (λ h. (none-held (in_both s e) (both-normal s e tops n m)).1
    (λ x. false_from_ne_true (holds (in_both s e).ranges x) (λ k.
    let p = and_parts (holds s.ranges x) (holds e.ranges x) (sym (both-holds s e x n) ∙ k) in
    both_ways (meet s e) ((true-not (meet s e)).0 h) (meet-yes s.ranges e.ranges x p.0 p.1))))
    (apart-from s e n m)

-- ---- sets on a side

pub source-cut-normal : (side : Side) (s e : Numbers) → s.top ≡ e.top → IsNormal 0 s.top s.ranges
    → IsNormal 0 e.top e.ranges → IsNormal 0 (source_cut side s e).top (source_cut side s e).ranges
source-cut-normal Whole s e tops n m = n
source-cut-normal Source s e tops n m = both-normal s e tops n m
source-cut-normal Destination s e tops n m = n

pub destination-cut-normal : (side : Side) (s e : Numbers) → s.top ≡ e.top → IsNormal 0 s.top s.ranges
    → IsNormal 0 e.top e.ranges → IsNormal 0 (destination_cut side s e).top (destination_cut side s e).ranges
destination-cut-normal Whole s e tops n m = n
destination-cut-normal Source s e tops n m = n
destination-cut-normal Destination s e tops n m = both-normal s e tops n m

-- ---- sets of a term

pub source-normal : (f : Family) (t : Term) → IsNormal 0 (source_in f t).top (source_in f t).ranges
source-normal V4 t = t.sound.src4_normal
source-normal V6 t = t.sound.src6_normal

pub destination-normal : (f : Family) (t : Term) → IsNormal 0 (destination_in f t).top (destination_in f t).ranges
destination-normal V4 t = t.sound.dst4_normal
destination-normal V6 t = t.sound.dst6_normal

pub either-normal : (f : Family) (t : Term) → IsNormal 0 (either_in f t).top (either_in f t).ranges
either-normal V4 t = t.sound.addr4_normal
either-normal V6 t = t.sound.addr6_normal

pub source_tops : (f : Family) (t : Term) → (source_in f t).top ≡ (either_in f t).top
source_tops V4 t = t.sound.src4_top ∙ sym t.sound.addr4_top
source_tops V6 t = t.sound.src6_top ∙ sym t.sound.addr6_top

pub destination_tops : (f : Family) (t : Term) → (destination_in f t).top ≡ (either_in f t).top
destination_tops V4 t = t.sound.dst4_top ∙ sym t.sound.addr4_top
destination_tops V6 t = t.sound.dst6_top ∙ sym t.sound.addr6_top

pub sport_tops : (t : Term) → t.sports.top ≡ t.ports.top
sport_tops t = t.sound.tops SourcePort ∙ sym t.sound.ports_top

pub dport_tops : (t : Term) → t.dports.top ≡ t.ports.top
dport_tops t = t.sound.tops DestinationPort ∙ sym t.sound.ports_top

-- protocols are small numbers
pub protocols_small : (t : Term) → t.protos.top ≤ 65535
protocols_small t = omega (arith, t.sound.tops Protocol)
