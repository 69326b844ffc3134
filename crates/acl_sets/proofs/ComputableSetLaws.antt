-- Laws of sets that are computed with: union, difference and intersection of lists hold what they
-- should, in normal form, and the tests on lists say what they should.
use Rattle.std.proofs.Common.{◌≡◌, ℕ, ◌+◌, ◌≤◌, max, true, false, not, ◌&&◌, ◌||◌, nat_le, List, [], ◌∷◌, flat_map, inl, inr, refl, ap, sym, ◌∙◌, arith}
use Rattle.std.proofs.lemmas.Bool.{cases_lt, le-leb, leb-true, and_from, and_parts, or_from, or_left, or_right, or_parts, or_cases, both_ways, false_from_ne_true}
use Rattle.std.proofs.lemmas.List.Folds.{list_any-append}
use Rattle.std.specs.List.{AllByRecursion}
use Rattle.acl_sets.specs.declared.sets.Range.{Range}
use Rattle.acl_sets.specs.Ranges.{inside, holds, IsRange, IsNormal}
use Rattle.acl_sets.proofs.RangeLaws.{in_range, ends_of, lower_floor, at_floor, are_ranges, one_list}
use Rattle.acl_sets.proofs.SetFacts.{flat_normal, or_group, or_turn, and_in, not_both, both_none, either_none, never, put_in-holds, put_in-normal, without-holds, without-normal, common-holds, common-normal}
use Rattle.acl_sets.specs.ComputableSets.{put_in, put_all, cut, cut_all, shared, shared_all, covers, meets, all_covered}

-- Union

pub put_all-normal : (top : ℕ) (rs qs : List Range) → AllByRecursion (λ r. IsRange top r) rs
    → IsNormal 0 top qs → IsNormal 0 top (put_all rs qs)
put_all-normal top [] qs w n = n
put_all-normal top (r ∷ rs) qs w n =
    put_all-normal top rs (put_in r qs) w.1 (put_in-normal 0 top r qs n (omega arith) w.0.0 w.0.1)

pub put_all-holds : (top : ℕ) (rs qs : List Range) (x : ℕ) → AllByRecursion (λ r. IsRange top r) rs
    → IsNormal 0 top qs → holds (put_all rs qs) x ≡ (holds qs x || holds rs x)
put_all-holds top [] qs x w n = sym (either_none (holds qs x))
put_all-holds top (r ∷ rs) qs x w n =
    put_all-holds top rs (put_in r qs) x w.1 (put_in-normal 0 top r qs n (omega arith) w.0.0 w.0.1)
    ∙ ap (λ t. t || holds rs x) (put_in-holds 0 top r qs x n w.0.0)
    ∙ ap (λ t. t || holds rs x) (or_turn (inside r x) (holds qs x))
    ∙ or_group (holds qs x) (inside r x) (holds rs x)

-- Difference

pub cut_all-normal : (f top most : ℕ) (rs qs : List Range) → AllByRecursion (λ r. IsRange most r) rs
    → IsNormal f top qs → IsNormal f top (cut_all rs qs)
cut_all-normal f top most [] qs w n = n
cut_all-normal f top most (r ∷ rs) qs w n =
    cut_all-normal f top most rs (flat_map (cut r) qs) w.1 (without-normal f top r qs n w.0.0)

pub cut_all-holds : (f top most : ℕ) (rs qs : List Range) (x : ℕ)
    → AllByRecursion (λ r. IsRange most r) rs → IsNormal f top qs
    → holds (cut_all rs qs) x ≡ (holds qs x && not (holds rs x))
cut_all-holds f top most [] qs x w n = sym (both_none (holds qs x))
cut_all-holds f top most (r ∷ rs) qs x w n =
    cut_all-holds f top most rs (flat_map (cut r) qs) x w.1 (without-normal f top r qs n w.0.0)
    ∙ ap (λ t. t && not (holds rs x)) (without-holds f top r qs x n w.0.0)
    ∙ not_both (holds qs x) (inside r x) (holds rs x)

-- Intersection

pub shared_all-normal : (f top g most : ℕ) (rs qs : List Range) → IsNormal f top rs
    → IsNormal g most qs → IsNormal f top (shared_all rs qs)
shared_all-normal f top g most rs qs n m =
    flat_normal (λ r. flat_map (λ q. shared r q) qs) (λ r h. lower_floor r.low (max g r.low) r.high
    (flat_map (λ q. shared r q) qs) (omega arith) (common-normal g most r qs m)) f top rs n

pub shared_all-holds : (g most : ℕ) (rs qs : List Range) (x : ℕ) → IsNormal g most qs
    → holds (shared_all rs qs) x ≡ (holds qs x && holds rs x)
shared_all-holds g most [] qs x m = sym (never (holds qs x))
shared_all-holds g most (r ∷ rs) qs x m =
    list_any-append (λ (t : Range). inside t x) (flat_map (λ q. shared r q) qs) (shared_all rs qs)
    ∙ ap (λ t. t || holds (shared_all rs qs) x) (common-holds g most r qs x m)
    ∙ ap (λ t. (holds qs x && inside r x) || t) (shared_all-holds g most rs qs x m)
    ∙ and_in (holds qs x) (inside r x) (holds rs x)

-- Blocks of numbers

pub covers-holds : (rs : List Range) (low high x : ℕ) → covers rs low high ≡ true → low ≤ x
    → x ≤ high → holds rs x ≡ true
covers-holds [] low high x e h k = absurd (both_ways false refl e)
covers-holds (r ∷ rs) low high x e h k = elim (or_cases (nat_le r.low low && nat_le high r.high)
    (covers rs low high) e) [
      | inl i ↦ let p = and_parts (nat_le r.low low) (nat_le high r.high) i in
          let a = leb-true r.low low p.0 in let b = leb-true high r.high p.1 in
          or_left (inside r x) (holds rs x) (in_range r.low r.high x (omega arith) (omega arith))
      | inr i ↦ or_right (inside r x) (holds rs x) (covers-holds rs low high x i h k)
    ]

-- a block of numbers that a normal list holds lies in one range
pub holds-covers : (f top : ℕ) (rs : List Range) (low high : ℕ) → IsNormal f top rs → low ≤ high
    → ((x : ℕ) → low ≤ x → x ≤ high → holds rs x ≡ true) → covers rs low high ≡ true
holds-covers f top [] low high n l h = absurd (both_ways false refl (h low (omega arith) l))
holds-covers f top (r ∷ rs) low high n l h =
    let begins : r.low ≤ low = at_floor r.low top (r ∷ rs) low (omega arith, n.1, n.2, n.3)
    (h low (omega arith) l) in
    elim (cases_lt r.high low) [
      | inl past ↦ or_right (nat_le r.low low && nat_le high r.high) (covers rs low high)
          (holds-covers (r.high + 2) top rs low high n.3 l
          (λ x p q. elim (or_cases (inside r x) (holds rs x) (h x p q)) [
            | inl i ↦ let e = ends_of r.low r.high x i in absurd (omega arith)
            | inr i ↦ i
          ]))
      | inr within ↦ elim (cases_lt r.high high) [
        | inl short ↦ elim (or_cases (inside r (r.high + 1)) (holds rs (r.high + 1))
            (h (r.high + 1) (omega arith) (omega arith))) [
              | inl i ↦ let e = ends_of r.low r.high (r.high + 1) i in absurd (omega arith)
              | inr i ↦ let e = at_floor (r.high + 2) top rs (r.high + 1) n.3 i in absurd (omega arith)
            ]
        | inr whole ↦ or_left (nat_le r.low low && nat_le high r.high) (covers rs low high)
            (and_from (nat_le r.low low) (nat_le high r.high) (le-leb r.low low begins)
            (le-leb high r.high whole))
      ]
    ]

pub misses-holds : (rs : List Range) (low high x : ℕ) → meets rs low high ≡ false → low ≤ x
    → x ≤ high → holds rs x ≡ false
misses-holds [] low high x e h k = refl
misses-holds (r ∷ rs) low high x e h k =
    let p = or_parts (nat_le r.low high && nat_le low r.high) (meets rs low high) e in
    or_from (inside r x) (holds rs x)
    (false_from_ne_true (inside r x) (λ i. let s = ends_of r.low r.high x i in both_ways
    (nat_le r.low high && nat_le low r.high) p.0 (and_from (nat_le r.low high) (nat_le low r.high)
    (le-leb r.low high (omega arith)) (le-leb low r.high (omega arith)))))
    (misses-holds rs low high x p.1 h k)

-- Subsets

pub covered-subset : (rs qs : List Range) (x : ℕ) → all_covered rs qs ≡ true → holds rs x ≡ true
    → holds qs x ≡ true
covered-subset [] qs x e h = absurd (both_ways false refl h)
covered-subset (r ∷ rs) qs x e h =
    let p = and_parts (covers qs r.low r.high) (all_covered rs qs) e in
    elim (or_cases (inside r x) (holds rs x) h) [
      | inl i ↦ let s = ends_of r.low r.high x i in covers-holds qs r.low r.high x p.0 s.0 s.1
      | inr i ↦ covered-subset rs qs x p.1 i
    ]

pub subset-covered : (f g top : ℕ) (rs qs : List Range) → IsNormal f top rs → IsNormal g top qs
    → ((x : ℕ) → x ≤ top → holds rs x ≡ true → holds qs x ≡ true) → all_covered rs qs ≡ true
subset-covered f g top [] qs n m h = refl
subset-covered f g top (r ∷ rs) qs n m h =
    and_from (covers qs r.low r.high) (all_covered rs qs)
    (holds-covers g top qs r.low r.high m n.1 (λ x p q. h x (omega arith)
    (or_left (inside r x) (holds rs x) (in_range r.low r.high x p q))))
    (subset-covered (r.high + 2) g top rs qs n.3 m (λ x p q. h x p
    (or_right (inside r x) (holds rs x) q)))

-- A list in normal form that holds the right numbers is the one that is computed, so that a body owes
-- the facts on what its list holds alone

pub union-computed : (top : ℕ) (qs rs vs : List Range) → IsNormal 0 top qs → IsNormal 0 top rs
    → IsNormal 0 top vs → ((x : ℕ) → holds vs x ≡ (holds qs x || holds rs x)) → vs ≡ put_all rs qs
union-computed top qs rs vs n m k h =
    let ranges = are_ranges 0 top rs m in
    one_list 0 0 top vs (put_all rs qs) k (put_all-normal top rs qs ranges n)
    (λ x. h x ∙ sym (put_all-holds top rs qs x ranges n))

pub difference-computed : (top : ℕ) (qs rs vs : List Range) → IsNormal 0 top qs → IsNormal 0 top rs
    → IsNormal 0 top vs → ((x : ℕ) → holds vs x ≡ (holds qs x && not (holds rs x)))
    → vs ≡ cut_all rs qs
difference-computed top qs rs vs n m k h =
    let ranges = are_ranges 0 top rs m in
    one_list 0 0 top vs (cut_all rs qs) k (cut_all-normal 0 top top rs qs ranges n)
    (λ x. h x ∙ sym (cut_all-holds 0 top top rs qs x ranges n))

pub intersection-computed : (top : ℕ) (qs rs vs : List Range) → IsNormal 0 top qs
    → IsNormal 0 top rs → IsNormal 0 top vs → ((x : ℕ) → holds vs x ≡ (holds qs x && holds rs x))
    → vs ≡ shared_all rs qs
intersection-computed top qs rs vs n m k h =
    one_list 0 0 top vs (shared_all rs qs) k (shared_all-normal 0 top 0 top rs qs m n)
    (λ x. h x ∙ sym (shared_all-holds 0 top rs qs x n))
