-- The walks over two lists side by side give the union, the intersection and the difference, and
-- tell a subset.
use Rattle.std.proofs.Common.{◌≡◌, ℕ, zero, suc, ◌+◌, ◌-◌, ◌<◌, ◌≤◌, min, max, Bool, true, false, not, ◌&&◌, ◌||◌, nat_le, nat_lt, ◌==◌, List, [], ◌∷◌, ◌++◌, length, drop, slice_index_or, inl, inr, refl, ap, sym, ◌∙◌, arith}
use Rattle.std.proofs.lemmas.Bool.{cases_lt, lt-ltb, le-ltb, lt-leb, le-leb, and_left, ne_eqb, or_from}
use Rattle.std.proofs.Math.Bool.{or-false}
use Rattle.std.proofs.lemmas.Bool.Decides.{nat_tests}
use Rattle.std.proofs.lemmas.List.Folds.{list_any-append}
use Rattle.std.proofs.lemmas.List.Sorted.{IsPartitionedBy-ltb}
use Rattle.std.specs.List.Sorted.{IsNonDecreasingBy, IsPartitionedBy}
use Rattle.acl_sets.specs.declared.sets.Range.{Range}
use Rattle.acl_sets.specs.Ranges.{inside, holds, IsNormal}
use Rattle.acl_sets.specs.ComputableSets.{below, shared, put_all, cut_all, shared_all, covers, all_covered}
use Rattle.acl_sets.specs.SweepSteps.{merged, lower, not_lower, woven, passed, walk, shared_along, behind, cut_along, begins_by, covers_first, covered_walk}
use Rattle.acl_sets.proofs.RangeLaws.{ends_of, out_high, lower_floor, below_floor, at_floor}
use Rattle.acl_sets.proofs.SetFacts.{or_group, and_out, and_in, never, normal_append, shared-inside}
use Rattle.acl_sets.proofs.ComputableSetLaws.{union-computed, difference-computed, intersection-computed}
use Rattle.acl_sets.proofs.SweepFacts.{Rising, rising_lower, merged-normal, merged-holds}

-- Union

woven_order : (l r w n q : Bool) → (l || n) ≡ q → (l || (r || (w || n))) ≡ ((r || w) || q)
woven_order true true w n q e = refl
woven_order true false true n q e = refl
woven_order true false false n q e = e
woven_order false true w n q e = refl
woven_order false false true n q e = refl
woven_order false false false n q e = e

lower-holds : (low : ℕ) (qs : List Range) (x : ℕ)
    → (holds (lower low qs) x || holds (not_lower low qs) x) ≡ holds qs x
lower-holds low [] x = refl
lower-holds low (q ∷ qs) x = elim (cases_lt q.low low) [
  | inl h ↦ rw (lt-ltb q.low low h) (or_group (inside q x) (holds (lower low qs) x)
      (holds (not_lower low qs) x) ∙ ap (λ t. inside q x || t) (lower-holds low qs x))
  | inr h ↦ rw (le-ltb q.low low h) refl
]

woven-holds : (rs qs : List Range) (x : ℕ) → holds (woven rs qs) x ≡ (holds rs x || holds qs x)
woven-holds [] qs x = refl
woven-holds (r ∷ rs) qs x =
    list_any-append (λ (t : Range). inside t x) (lower r.low qs)
    (r ∷ woven rs (not_lower r.low qs))
    ∙ ap (λ t. holds (lower r.low qs) x || (inside r x || t))
    (woven-holds rs (not_lower r.low qs) x)
    ∙ woven_order (holds (lower r.low qs) x) (inside r x) (holds rs x)
    (holds (not_lower r.low qs) x) (holds qs x) (lower-holds r.low qs x)

lower-rising : (f g top low : ℕ) (qs ss : List Range) → IsNormal g top qs → f ≤ g → f ≤ low
    → Rising low top ss → Rising f top (lower low qs ++ ss)
lower-rising f g top low [] ss n l m h = rising_lower f low top ss m h
lower-rising f g top low (q ∷ qs) ss n l m h = elim (cases_lt q.low low) [
  | inl k ↦ rw (lt-ltb q.low low k) (
    omega arith,
    n.1,
    n.2,
    lower-rising q.low (q.high + 2) top low qs ss n.3 (omega arith) (omega arith) h,
  )
  | inr k ↦ rw (le-ltb q.low low k) (rising_lower f low top ss m h)
]

not_lower-normal : (g top low : ℕ) (qs : List Range) → IsNormal g top qs
    → IsNormal low top (not_lower low qs)
not_lower-normal g top low [] n = tt
not_lower-normal g top low (q ∷ qs) n = elim (cases_lt q.low low) [
  | inl k ↦ rw (lt-ltb q.low low k) (not_lower-normal (q.high + 2) top low qs n.3)
  | inr k ↦ rw (le-ltb q.low low k) (k, n.1, n.2, n.3)
]

normal-rising : (f g top : ℕ) (qs : List Range) → f ≤ g → IsNormal g top qs → Rising f top qs
normal-rising f g top [] l n = tt
normal-rising f g top (q ∷ qs) l n =
    (omega arith, n.1, n.2, normal-rising q.low (q.high + 2) top qs (omega arith) n.3)

woven-rising : (f top : ℕ) (rs qs : List Range) → IsNormal f top rs → IsNormal f top qs
    → Rising f top (woven rs qs)
woven-rising f top [] qs n m = normal-rising f f top qs (omega arith) m
woven-rising f top (r ∷ rs) qs n m =
    lower-rising f f top r.low qs (r ∷ woven rs (not_lower r.low qs)) m (omega arith) n.0 (
      omega arith,
      n.1,
      n.2,
      woven-rising r.low top rs (not_lower r.low qs) (lower_floor r.low (r.high + 2) top rs (omega arith) n.3)
          (not_lower-normal f top r.low qs m),
    )

pub united-computed : (top : ℕ) (rs qs : List Range) → IsNormal 0 top rs → IsNormal 0 top qs
    → merged (woven rs qs) ≡ put_all qs rs
united-computed top rs qs n m =
    let rising = woven-rising 0 top rs qs n m in
    union-computed top rs qs (merged (woven rs qs)) n m (merged-normal 0 top (woven rs qs) rising)
    (λ x. merged-holds 0 top (woven rs qs) x rising ∙ woven-holds rs qs x)

-- The ranges that do not end below a number

pub passed-normal : (g top high : ℕ) (qs : List Range) → IsNormal g top qs
    → IsNormal g top (passed high qs)
passed-normal g top high [] n = tt
passed-normal g top high (q ∷ qs) n = elim (cases_lt q.high high) [
  | inl h ↦ rw (lt-ltb q.high high h)
      (lower_floor g (q.high + 2) top (passed high qs) (omega arith) (passed-normal (q.high + 2) top high qs n.3))
  | inr h ↦ rw (le-ltb q.high high h) n
]

passed-holds : (high : ℕ) (qs : List Range) (x : ℕ) → high < x
    → holds (passed high qs) x ≡ holds qs x
passed-holds high [] x l = refl
passed-holds high (q ∷ qs) x l = elim (cases_lt q.high high) [
  | inl h ↦ rw (lt-ltb q.high high h) (passed-holds high qs x l
      ∙ sym (ap (λ t. t || holds qs x) (out_high q.low q.high x (omega arith))))
  | inr h ↦ rw (le-ltb q.high high h) refl
]

-- Side by side

abbrev Along : Type 0
Along = Range → List Range → List Range

same_if : (a : Bool) (test : Bool → Bool) (b c : Bool) → (a ≡ true → b ≡ c)
    → (a && test b) ≡ (a && test c)
same_if true test b c h = ap test (h refl)
same_if false test b c h = refl

walk-normal : (along : Along)
    → ((g most : ℕ) (r : Range) (qs : List Range) → r.low ≤ r.high → IsNormal g most qs
    → IsNormal r.low r.high (along r qs))
    → (f top g most : ℕ) (rs qs : List Range) → IsNormal f top rs → IsNormal g most qs
    → IsNormal f top (walk along rs qs)
walk-normal along h f top g most [] qs n m = tt
walk-normal along h f top g most (r ∷ rs) qs n m =
    normal_append f r.high (r.high + 2) top (along r qs) (walk along rs (passed r.high qs))
    (lower_floor f r.low r.high (along r qs) n.0 (h g most r qs n.1 m)) (omega arith) (omega arith)
    n.2 (walk-normal along h (r.high + 2) top g most rs (passed r.high qs) n.3
    (passed-normal g most r.high qs m))

walk-holds : (along : Along) (test : Bool → Bool) (x : ℕ)
    → ((g most : ℕ) (r : Range) (qs : List Range) → r.low ≤ r.high → IsNormal g most qs
    → holds (along r qs) x ≡ (inside r x && test (holds qs x)))
    → (f top g most : ℕ) (rs qs : List Range) → IsNormal f top rs → IsNormal g most qs
    → holds (walk along rs qs) x ≡ (holds rs x && test (holds qs x))
walk-holds along test x h f top g most [] qs n m = refl
walk-holds along test x h f top g most (r ∷ rs) qs n m =
    list_any-append (λ (t : Range). inside t x) (along r qs) (walk along rs (passed r.high qs))
    ∙ ap (λ t. t || holds (walk along rs (passed r.high qs)) x) (h g most r qs n.1 m)
    ∙ ap (λ t. (inside r x && test (holds qs x)) || t)
    (walk-holds along test x h (r.high + 2) top g most rs (passed r.high qs) n.3
    (passed-normal g most r.high qs m)
    ∙ same_if (holds rs x) test (holds (passed r.high qs) x) (holds qs x)
    (λ e. let s = at_floor (r.high + 2) top rs x n.3 e in passed-holds r.high qs x (omega arith)))
    ∙ and_out (inside r x) (holds rs x) (test (holds qs x))

-- Intersection

shared_then-normal : (g : ℕ) (r q : Range) (rest : List Range) → g ≤ q.low → q.low ≤ q.high
    → IsNormal (max r.low (q.high + 2)) r.high rest
    → IsNormal (max r.low g) r.high (shared q r ++ rest)
shared_then-normal g r q rest l m n = elim (cases_lt (min q.high r.high) (max q.low r.low)) [
  | inl k ↦ rw (lt-leb (max q.low r.low) (min q.high r.high) k)
      (lower_floor (max r.low g) (max r.low (q.high + 2)) r.high rest (omega arith) n)
  | inr k ↦ rw (le-leb (max q.low r.low) (min q.high r.high) k) (
    omega arith,
    k,
    omega arith,
    lower_floor (min q.high r.high + 2) (max r.low (q.high + 2)) r.high rest (omega arith) n,
  )
]

shared_along-from : (g top : ℕ) (r : Range) (qs : List Range) → IsNormal g top qs
    → IsNormal (max r.low g) r.high (shared_along r qs)
shared_along-from g top r [] n = tt
shared_along-from g top r (q ∷ qs) n = elim (cases_lt q.high r.high) [
  | inl k ↦ rw (lt-ltb q.high r.high k) (shared_then-normal g r q (shared_along r qs) n.0 n.1
      (shared_along-from (q.high + 2) top r qs n.3))
  | inr k ↦ rw (le-ltb q.high r.high k) (shared_then-normal g r q [] n.0 n.1 tt)
]

shared_along-normal : (g top : ℕ) (r : Range) (qs : List Range) → r.low ≤ r.high
    → IsNormal g top qs → IsNormal r.low r.high (shared_along r qs)
shared_along-normal g top r qs l n =
    lower_floor r.low (max r.low g) r.high (shared_along r qs) (omega arith)
    (shared_along-from g top r qs n)

last_shared : (a b c : Bool) → (a ≡ true → c ≡ false) → ((a && b) || false) ≡ (a && (b || c))
last_shared true b c h = ap (λ t. b || t) (sym (h refl))
last_shared false b c h = refl

shared_along-holds : (g top : ℕ) (r : Range) (qs : List Range) (x : ℕ) → IsNormal g top qs
    → holds (shared_along r qs) x ≡ (inside r x && holds qs x)
shared_along-holds g top r [] x n = sym (never (inside r x))
shared_along-holds g top r (q ∷ qs) x n = elim (cases_lt q.high r.high) [
  | inl k ↦ rw (lt-ltb q.high r.high k)
      (list_any-append (λ (t : Range). inside t x) (shared q r) (shared_along r qs)
      ∙ ap (λ t. t || holds (shared_along r qs) x) (shared-inside q.low q.high r.low r.high x)
      ∙ ap (λ t. (inside r x && inside q x) || t) (shared_along-holds (q.high + 2) top r qs x n.3)
      ∙ and_in (inside r x) (inside q x) (holds qs x))
  | inr k ↦ rw (le-ltb q.high r.high k)
      (list_any-append (λ (t : Range). inside t x) (shared q r) []
      ∙ ap (λ t. t || false) (shared-inside q.low q.high r.low r.high x)
      ∙ last_shared (inside r x) (inside q x) (holds qs x) (λ i. let s = ends_of r.low r.high x i in
      below_floor (q.high + 2) top qs x n.3 (omega arith)))
]

pub shared-computed : (top : ℕ) (rs qs : List Range) → IsNormal 0 top rs → IsNormal 0 top qs
    → walk (λ r ts. shared_along r ts) rs qs ≡ shared_all qs rs
shared-computed top rs qs n m =
    intersection-computed top rs qs (walk (λ r ts. shared_along r ts) rs qs) n m
    (walk-normal (λ r ts. shared_along r ts) (λ g most r ts l k. shared_along-normal g most r ts l k)
    0 top 0 top rs qs n m)
    (λ x. walk-holds (λ r ts. shared_along r ts) (λ t. t) x
    (λ g most r ts l k. shared_along-holds g most r ts x k) 0 top 0 top rs qs n m)

-- Difference

cut_step : (a b c d x : ℕ) (h : Bool) → a ≤ b → c ≤ d → b < d → (h ≡ true → b + 2 ≤ x)
    → (holds (below (record { low = a; high = b }) (record { low = c; high = d })) x
    || ((nat_le (max c (b + 1)) x && nat_le x d) && not h))
    ≡ ((nat_le c x && nat_le x d) && not ((nat_le a x && nat_le x b) || h))
cut_step a b c d x true k l m e = let s = e refl in elim (cases_lt c a) [
  | inl i ↦ rw (lt-ltb c a i) (grind (arith, nat_tests))
  | inr i ↦ rw (le-ltb c a i) (grind (arith, nat_tests))
]
cut_step a b c d x false k l m e = elim (cases_lt c a) [
  | inl i ↦ rw (lt-ltb c a i) (grind (arith, nat_tests))
  | inr i ↦ rw (le-ltb c a i) (grind (arith, nat_tests))
]

cut_last : (a b c d x : ℕ) (h : Bool) → a ≤ b → c ≤ d → d ≤ b → (h ≡ true → b + 2 ≤ x)
    → (holds (below (record { low = a; high = b }) (record { low = c; high = d })) x || false)
    ≡ ((nat_le c x && nat_le x d) && not ((nat_le a x && nat_le x b) || h))
cut_last a b c d x true k l m e = let s = e refl in elim (cases_lt c a) [
  | inl i ↦ rw (lt-ltb c a i) (grind (arith, nat_tests))
  | inr i ↦ rw (le-ltb c a i) (grind (arith, nat_tests))
]
cut_last a b c d x false k l m e = elim (cases_lt c a) [
  | inl i ↦ rw (lt-ltb c a i) (grind (arith, nat_tests))
  | inr i ↦ rw (le-ltb c a i) (grind (arith, nat_tests))
]

last_cut : (a : Bool) → (a || false) ≡ (a && not false)
last_cut true = refl
last_cut false = refl

cut_along-holds : (g top : ℕ) (r : Range) (qs : List Range) (x : ℕ) → r.low ≤ r.high
    → IsNormal g top qs → holds (cut_along r qs) x ≡ (inside r x && not (holds qs x))
cut_along-holds g top r [] x l n = last_cut (inside r x)
cut_along-holds g top r (q ∷ qs) x l n = elim (cases_lt q.high r.high) [
  | inl k ↦ rw (lt-ltb q.high r.high k)
      (list_any-append (λ (t : Range). inside t x) (below q r) (cut_along (behind q r) qs)
      ∙ ap (λ t. holds (below q r) x || t)
      (cut_along-holds (q.high + 2) top (behind q r) qs x (omega arith) n.3)
      ∙ cut_step q.low q.high r.low r.high x (holds qs x) n.1 l k
      (λ e. at_floor (q.high + 2) top qs x n.3 e))
  | inr k ↦ rw (le-ltb q.high r.high k)
      (list_any-append (λ (t : Range). inside t x) (below q r) []
      ∙ cut_last q.low q.high r.low r.high x (holds qs x) n.1 l k
      (λ e. at_floor (q.high + 2) top qs x n.3 e))
]

below_then-normal : (r q : Range) (rest : List Range) → r.low ≤ r.high → q.low ≤ q.high
    → IsNormal (max r.low (q.high + 1)) r.high rest → IsNormal r.low r.high (below q r ++ rest)
below_then-normal r q rest l m n = elim (cases_lt r.low q.low) [
  | inl k ↦ rw (lt-ltb r.low q.low k) (
    omega arith,
    omega arith,
    omega arith,
    lower_floor (min r.high (q.low - 1) + 2) (max r.low (q.high + 1)) r.high rest (omega arith) n,
  )
  | inr k ↦ rw (le-ltb r.low q.low k)
      (lower_floor r.low (max r.low (q.high + 1)) r.high rest (omega arith) n)
]

cut_along-normal : (g top : ℕ) (r : Range) (qs : List Range) → r.low ≤ r.high
    → IsNormal g top qs → IsNormal r.low r.high (cut_along r qs)
cut_along-normal g top r [] l n = (omega arith, l, omega arith, tt)
cut_along-normal g top r (q ∷ qs) l n = elim (cases_lt q.high r.high) [
  | inl k ↦ rw (lt-ltb q.high r.high k) (below_then-normal r q (cut_along (behind q r) qs) l n.1
      (cut_along-normal (q.high + 2) top (behind q r) qs (omega arith) n.3))
  | inr k ↦ rw (le-ltb q.high r.high k) (below_then-normal r q [] l n.1 tt)
]

pub cut-computed : (top : ℕ) (rs qs : List Range) → IsNormal 0 top rs → IsNormal 0 top qs
    → walk (λ r ts. cut_along r ts) rs qs ≡ cut_all qs rs
cut-computed top rs qs n m =
    difference-computed top rs qs (walk (λ r ts. cut_along r ts) rs qs) n m
    (walk-normal (λ r ts. cut_along r ts) (λ g most r ts l k. cut_along-normal g most r ts l k)
    0 top 0 top rs qs n m)
    (λ x. walk-holds (λ r ts. cut_along r ts) (λ t. not t) x
    (λ g most r ts l k. cut_along-holds g most r ts x l k) 0 top 0 top rs qs n m)

-- Subsets

skipped : (a b c : Bool) → b ≡ false → ((a && b) || c) ≡ c
skipped true b c e = ap (λ t. t || c) e
skipped false b c e = refl

whole_test : (a b c : Bool) → b ≡ true → c ≡ false → ((a && b) || c) ≡ a
whole_test true b c e d = ap (λ t. t || c) e
whole_test false b c e d = d

covers-none : (g top : ℕ) (qs : List Range) (low high : ℕ) → IsNormal g top qs → low < g
    → covers qs low high ≡ false
covers-none g top [] low high n l = refl
covers-none g top (q ∷ qs) low high n l =
    or_from (nat_le q.low low && nat_le high q.high) (covers qs low high)
    (ap (λ t. t && nat_le high q.high) (lt-leb q.low low (omega arith)))
    (covers-none (q.high + 2) top qs low high n.3 (omega arith))

covers_passed : (from : ℕ) (qs : List Range) (low high : ℕ) → from ≤ high
    → covers (passed from qs) low high ≡ covers qs low high
covers_passed from [] low high l = refl
covers_passed from (q ∷ qs) low high l = elim (cases_lt q.high from) [
  | inl h ↦ rw (lt-ltb q.high from h) (covers_passed from qs low high l
      ∙ sym (skipped (nat_le q.low low) (nat_le high q.high) (covers qs low high)
      (lt-leb high q.high (omega arith))))
  | inr h ↦ rw (le-ltb q.high from h) refl
]

pub begins_covers : (g top : ℕ) (qs : List Range) (low high : ℕ) → IsNormal g top qs → low ≤ high
    → begins_by low (passed high qs) ≡ covers qs low high
begins_covers g top [] low high n l = refl
begins_covers g top (q ∷ qs) low high n l = elim (cases_lt q.high high) [
  | inl h ↦ rw (lt-ltb q.high high h) (begins_covers (q.high + 2) top qs low high n.3 l
      ∙ sym (skipped (nat_le q.low low) (nat_le high q.high) (covers qs low high)
      (lt-leb high q.high h)))
  | inr h ↦ rw (le-ltb q.high high h) (sym (whole_test (nat_le q.low low) (nat_le high q.high)
      (covers qs low high) (le-leb high q.high h)
      (covers-none (q.high + 2) top qs low high n.3 (omega arith))))
]

all_passed : (f top from : ℕ) (rs qs : List Range) → IsNormal f top rs → from ≤ f
    → all_covered rs (passed from qs) ≡ all_covered rs qs
all_passed f top from [] qs n l = refl
all_passed f top from (r ∷ rs) qs n l =
    ap (λ t. t && all_covered rs (passed from qs)) (covers_passed from qs r.low r.high (omega arith))
    ∙ ap (λ t. covers qs r.low r.high && t)
    (all_passed (r.high + 2) top from rs qs n.3 (omega arith))

pub covered_walk-covered : (f top g most : ℕ) (rs qs : List Range) → IsNormal f top rs
    → IsNormal g most qs → covered_walk rs qs ≡ all_covered rs qs
covered_walk-covered f top g most [] qs n m = refl
covered_walk-covered f top g most (r ∷ rs) qs n m =
    ap (λ t. t && covered_walk rs (passed r.high qs)) (begins_covers g most qs r.low r.high m n.1)
    ∙ ap (λ t. covers qs r.low r.high && t)
    (covered_walk-covered (r.high + 2) top g most rs (passed r.high qs) n.3
    (passed-normal g most r.high qs m)
    ∙ all_passed (r.high + 2) top r.high rs qs n.3 (omega arith))

-- Halving

-- the ends are at or past the floor
high-past : (f top : ℕ) (rs : List Range) (i : ℕ) (d : Range) → IsNormal f top rs → i < length rs
    → f ≤ (slice_index_or rs i d).high
high-past f top [] i d n l = absurd (omega arith)
high-past f top (r ∷ rs) zero d n l = omega arith
high-past f top (r ∷ rs) (suc i) d n l =
    let h = high-past (r.high + 2) top rs i d n.3 (omega arith) in omega (arith, h, n.1, n.0)

high_step : (f top : ℕ) (rs : List Range) → IsNormal f top rs → (i j : ℕ) (d : Range) → i ≤ j
    → j < length rs → (slice_index_or rs i d).high ≤ (slice_index_or rs j d).high
high_step f top [] n i j d l m = absurd (omega arith)
high_step f top (r ∷ rs) n zero zero d l m = omega arith
high_step f top (r ∷ rs) n zero (suc j) d l m =
    let h = high-past (r.high + 2) top rs j d n.3 (omega arith) in omega (arith, h)
high_step f top (r ∷ rs) n (suc i) zero d l m = absurd (omega arith)
high_step f top (r ∷ rs) n (suc i) (suc j) d l m =
    high_step (r.high + 2) top rs n.3 i j d (omega arith) (omega arith)

high-rises : (f top : ℕ) (rs : List Range) → IsNormal f top rs
    → IsNonDecreasingBy (λ (r : Range). r.high) rs
high-rises f top rs n = λ i j d l m. high_step f top rs n i j d l m

pub number-parts : (top x : ℕ) (rs : List Range) → IsNormal 0 top rs
    → IsPartitionedBy (λ (r : Range). nat_lt r.high x) rs
number-parts top x rs n =
    IsPartitionedBy-ltb (λ (r : Range). r.high) rs x (high-rises 0 top rs n)

pub passed-drop : (x : ℕ) (qs : List Range) (i : ℕ) → i ≤ length qs
    → ((k : ℕ) (d : Range) → k < i → nat_lt (slice_index_or qs k d).high x ≡ true)
    → ((k : ℕ) (d : Range) → i ≤ k → k < length qs → nat_lt (slice_index_or qs k d).high x ≡ false)
    → passed x qs ≡ drop i qs
passed-drop x [] zero l h k = refl
passed-drop x [] (suc i) l h k = absurd (omega arith)
passed-drop x (q ∷ qs) zero l h k = rw (k 0 q (omega arith) (omega arith)) refl
passed-drop x (q ∷ qs) (suc i) l h k =
    rw (h 0 q (omega arith)) (passed-drop x qs i (omega arith)
    (λ j d m. h (suc j) d (omega arith)) (λ j d m o. k (suc j) d (omega arith) (omega arith)))

-- All numbers up to one

none_later : (floor top high : ℕ) (rs : List Range) → 0 < floor → IsNormal floor top rs → covers rs 0 high ≡ false
none_later floor top high [] above n = refl
none_later floor top high (r ∷ rs) above n =
    or_from (nat_le r.low 0 && nat_le high r.high) (covers rs 0 high)
    (and_left (nat_le r.low 0) (nat_le high r.high) (lt-leb r.low 0 (omega arith)))
    (none_later (r.high + 2) top high rs (omega arith) n.3)

pub first_tells : (top high : ℕ) (rs : List Range) → IsNormal 0 top rs → covers_first high rs ≡ covers rs 0 high
first_tells top high [] n = refl
first_tells top high (r ∷ rs) n =
    ap (λ b. b && nat_le high r.high) (zero_test r.low) ∙ sym (or-false (nat_le r.low 0 && nat_le high r.high))
    ∙ ap (λ b. (nat_le r.low 0 && nat_le high r.high) || b)
    (sym (none_later (r.high + 2) top high rs (omega arith) n.3))
  where
    zero_test : (m : ℕ) → (m == 0) ≡ nat_le m 0
    zero_test zero = refl
    zero_test (suc m) = ne_eqb (suc m) 0 (λ e. omega (arith, e)) ∙ sym (lt-leb (suc m) 0 (omega arith))
