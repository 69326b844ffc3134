-- Laws of lists of ranges in normal form: what lies outside, and that a set has one such list.
use Rattle.std.proofs.Common.{◌≡◌, ℕ, ◌+◌, ◌<◌, ◌≤◌, true, false, ◌&&◌, ◌||◌, nat_le, ◌==◌, List, [], ◌∷◌, length, inl, inr, refl, ap, sym, ◌∙◌, arith}
use Rattle.std.proofs.lemmas.Bool.{cases_lt, le-leb, lt-leb, leb-true, eqb-true, and_from, and_left, and_right, and_parts, or_from, or_left, or_cases, both_ways}
use Rattle.std.specs.List.{AllByRecursion}
use Rattle.acl_sets.specs.declared.sets.Range.{Range}
use Rattle.acl_sets.specs.Ranges.{inside, holds, IsRange, IsNormal}

-- Tests of numbers

pub in_range : (a b x : ℕ) → a ≤ x → x ≤ b → (nat_le a x && nat_le x b) ≡ true
in_range a b x h l = and_from (nat_le a x) (nat_le x b) (le-leb a x h) (le-leb x b l)

pub out_low : (a b x : ℕ) → x < a → (nat_le a x && nat_le x b) ≡ false
out_low a b x h = and_left (nat_le a x) (nat_le x b) (lt-leb a x h)

pub out_high : (a b x : ℕ) → b < x → (nat_le a x && nat_le x b) ≡ false
out_high a b x h = and_right (nat_le a x) (nat_le x b) (lt-leb x b h)

pub ends_of : (a b x : ℕ) → (nat_le a x && nat_le x b) ≡ true → (a ≤ x) × (x ≤ b)
ends_of a b x h =
    let p = and_parts (nat_le a x) (nat_le x b) h in (leb-true a x p.0, leb-true x b p.1)

-- Normal forms

pub lower_floor : (f g top : ℕ) (rs : List Range) → f ≤ g → IsNormal g top rs → IsNormal f top rs
lower_floor f g top [] l h = tt
lower_floor f g top (r ∷ rs) l h = (omega arith, h.1, h.2, h.3)

-- a normal list holds no number below its floor, and none past its top
pub below_floor : (f top : ℕ) (rs : List Range) (x : ℕ) → IsNormal f top rs → x < f
    → holds rs x ≡ false
below_floor f top [] x h l = refl
below_floor f top (r ∷ rs) x h l =
    or_from (inside r x) (holds rs x) (out_low r.low r.high x (omega arith))
    (below_floor (r.high + 2) top rs x h.3 (omega arith))

pub past_top : (f top : ℕ) (rs : List Range) (x : ℕ) → IsNormal f top rs → top < x
    → holds rs x ≡ false
past_top f top [] x h l = refl
past_top f top (r ∷ rs) x h l =
    or_from (inside r x) (holds rs x) (out_high r.low r.high x (omega arith))
    (past_top (r.high + 2) top rs x h.3 l)

-- what a normal list holds lies between
pub at_floor : (f top : ℕ) (rs : List Range) (x : ℕ) → IsNormal f top rs → holds rs x ≡ true → f ≤ x
at_floor f top rs x h e =
    elim (cases_lt x f) [
      | inl l ↦ absurd (both_ways (holds rs x)
          (below_floor f top rs x h l) e)
      | inr l ↦ l
    ]

pub at_top : (f top : ℕ) (rs : List Range) (x : ℕ) → IsNormal f top rs → holds rs x ≡ true → x ≤ top
at_top f top rs x h e =
    elim (cases_lt top x) [
      | inl l ↦ absurd (both_ways (holds rs x)
          (past_top f top rs x h l) e)
      | inr l ↦ l
    ]

pub are_ranges : (f top : ℕ) (rs : List Range) → IsNormal f top rs
    → AllByRecursion (λ r. IsRange top r) rs
are_ranges f top [] h = tt
are_ranges f top (r ∷ rs) h = ((h.1, h.2), are_ranges (r.high + 2) top rs h.3)

-- The empty set

pub first-holds : (f top : ℕ) (r : Range) (rs : List Range) → IsNormal f top (r ∷ rs)
    → holds (r ∷ rs) r.low ≡ true
first-holds f top r rs n =
    or_left (inside r r.low) (holds rs r.low) (in_range r.low r.high r.low (omega arith) n.1)

pub empty-holds : (rs : List Range) (x : ℕ) → (length rs == 0) ≡ true → holds rs x ≡ false
empty-holds [] x e = refl
empty-holds (r ∷ rs) x e = absurd (omega (arith, eqb-true (length (r ∷ rs)) 0 e))

pub none-empty : (f top : ℕ) (rs : List Range) → IsNormal f top rs
    → ((x : ℕ) → x ≤ top → holds rs x ≡ false) → (length rs == 0) ≡ true
none-empty f top [] n h = refl
none-empty f top (r ∷ rs) n h =
    absurd (both_ways (holds (r ∷ rs) r.low) (h r.low (omega arith)) (first-holds f top r rs n))

-- One normal list

heads-low : (top : ℕ) (f g : ℕ) (r q : Range) (rs qs : List Range) → IsNormal f top (r ∷ rs)
    → IsNormal g top (q ∷ qs) → ((x : ℕ) → holds (r ∷ rs) x ≡ holds (q ∷ qs) x) → q.low ≤ r.low
heads-low top f g r q rs qs n m h =
    at_floor q.low top (q ∷ qs) r.low (omega arith, m.1, m.2, m.3)
    (sym (h r.low) ∙ first-holds f top r rs n)

heads-high : (top : ℕ) (f g : ℕ) (r q : Range) (rs qs : List Range) → IsNormal f top (r ∷ rs)
    → IsNormal g top (q ∷ qs) → ((x : ℕ) → holds (r ∷ rs) x ≡ holds (q ∷ qs) x) → r.low ≡ q.low
    → q.high ≤ r.high
heads-high top f g r q rs qs n m h e = elim (cases_lt r.high q.high) [
  | inl l ↦ elim (or_cases (inside r (r.high + 1)) (holds rs (r.high + 1))
      (h (r.high + 1) ∙ or_left (inside q (r.high + 1)) (holds qs (r.high + 1))
      (in_range q.low q.high (r.high + 1) (omega arith) (omega arith)))) [
        | inl i ↦ let s = ends_of r.low r.high (r.high + 1) i in absurd (omega arith)
        | inr i ↦ let s = at_floor (r.high + 2) top rs (r.high + 1) n.3 i in absurd (omega arith)
      ]
  | inr l ↦ l
]

tails-same : (top : ℕ) (a b x : ℕ) (rs qs : List Range) → IsNormal (b + 2) top rs
    → IsNormal (b + 2) top qs
    → ((nat_le a x && nat_le x b) || holds rs x) ≡ ((nat_le a x && nat_le x b) || holds qs x)
    → holds rs x ≡ holds qs x
tails-same top a b x rs qs n m h = elim (cases_lt x (b + 2)) [
  | inl l ↦ below_floor (b + 2) top rs x n l ∙ sym (below_floor (b + 2) top qs x m l)
  | inr l ↦ let e : (nat_le a x && nat_le x b) ≡ false = out_high a b x (omega arith) in
      sym (ap (λ t. t || holds rs x) e) ∙ h ∙ ap (λ t. t || holds qs x) e
]

same-range : (r q : Range) → r.low ≡ q.low → r.high ≡ q.high → r ≡ q
same-range r q e d =
    ap (λ t. record { low = t; high = r.high }) e ∙ ap (λ t. record { low = q.low; high = t }) d

pub one_list : (f g top : ℕ) (rs qs : List Range) → IsNormal f top rs → IsNormal g top qs
    → ((x : ℕ) → holds rs x ≡ holds qs x) → rs ≡ qs
one_list f g top [] [] n m h = refl
one_list f g top [] (q ∷ qs) n m h =
    absurd (both_ways false refl (h q.low ∙ first-holds g top q qs m))
one_list f g top (r ∷ rs) [] n m h =
    absurd (both_ways false refl (sym (h r.low) ∙ first-holds f top r rs n))
one_list f g top (r ∷ rs) (q ∷ qs) n m h =
    let back : (x : ℕ) → holds (q ∷ qs) x ≡ holds (r ∷ rs) x = λ x. sym (h x) in
    let low : r.low ≡ q.low = omega (
      arith,
      heads-low top f g r q rs qs n m h,
      heads-low top g f q r qs rs m n back,
    ) in
    let high : r.high ≡ q.high = omega (
      arith,
      heads-high top f g r q rs qs n m h low,
      heads-high top g f q r qs rs m n back (sym low),
    ) in
    let whole : r ≡ q = same-range r q low high in
    let k : IsNormal (r.high + 2) top qs = lower_floor (r.high + 2) (q.high + 2) top qs
    (omega arith) m.3 in
    let tails : rs ≡ qs = one_list (r.high + 2) (r.high + 2) top rs qs n.3 k
    (λ x. tails-same top r.low r.high x rs qs n.3 k (h x ∙ ap
    (λ (t : Range). inside t x || holds qs x) (sym whole))) in
    ap (λ (t : Range). t ∷ rs) whole ∙ ap (λ (t : List Range). q ∷ t) tails
