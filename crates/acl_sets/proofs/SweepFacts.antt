-- The walks over lists of ranges give what they should, in normal form.
use Rattle.std.proofs.Common.{◌≡◌, ℕ, ◌+◌, ◌≤◌, min, ◌||◌, List, [], ◌∷◌, inl, inr, refl, ap, sym, subst, ◌∙◌, arith}
use Rattle.std.proofs.lemmas.Bool.{cases_lt, lt-ltb, le-ltb}
use Rattle.std.proofs.lemmas.List.Sorted.{All-permutation, list_any-IsPermutation, IsNonDecreasingBy-drop}
use Rattle.std.proofs.lemmas.List.Elements.{recursion_from_All}
use Rattle.std.specs.List.{All, AllByRecursion}
use Rattle.std.specs.List.Sorted.{IsNonDecreasingBy, IsPermutation}
use Rattle.acl_sets.specs.declared.sets.Range.{Range}
use Rattle.acl_sets.specs.Ranges.{inside, holds, IsRange, IsNormal}
use Rattle.acl_sets.specs.ComputableSets.{joined, put_all}
use Rattle.acl_sets.specs.SweepSteps.{merged, merged_from}
use Rattle.acl_sets.proofs.RangeLaws.{one_list}
use Rattle.acl_sets.proofs.SetFacts.{joined-inside, or_group}
use Rattle.acl_sets.proofs.ComputableSetLaws.{put_all-normal, put_all-holds}

-- Ranges in rising order of their low ends, from a floor on

abbrev pub Rising : ℕ → ℕ → List Range → Type 0
Rising floor top [] = Unit {0}
Rising floor top (r ∷ rs) =
    (floor ≤ r.low) × (r.low ≤ r.high) × (r.high ≤ top) × Rising r.low top rs

pub rising_lower : (f g top : ℕ) (rs : List Range) → f ≤ g → Rising g top rs → Rising f top rs
rising_lower f g top [] l h = tt
rising_lower f g top (r ∷ rs) l h = (omega arith, h.1, h.2, h.3)

rises_on : (f top : ℕ) (r : Range) (rs : List Range) → f ≤ r.low
    → AllByRecursion (λ q. IsRange top q) (r ∷ rs)
    → IsNonDecreasingBy (λ (q : Range). q.low) (r ∷ rs) → Rising f top (r ∷ rs)
rises_on f top r [] l w h = (l, w.0.0, w.0.1, tt)
rises_on f top r (q ∷ qs) l w h = (
  l,
  w.0.0,
  w.0.1,
  rises_on r.low top q qs (h 0 1 r (omega arith) (omega arith)) w.1
      (IsNonDecreasingBy-drop (λ (t : Range). t.low) 1 (r ∷ q ∷ qs) h),
)

pub sorted_rising : (top : ℕ) (rs : List Range) → AllByRecursion (λ r. IsRange top r) rs
    → IsNonDecreasingBy (λ (r : Range). r.low) rs → Rising 0 top rs
sorted_rising top [] w h = tt
sorted_rising top (r ∷ rs) w h = rises_on 0 top r rs (omega arith) w h

-- Merging

pub merged_from-normal : (f top : ℕ) (r : Range) (qs : List Range) → f ≤ r.low → r.low ≤ r.high
    → r.high ≤ top → Rising r.low top qs → IsNormal f top (merged_from r qs)
merged_from-normal f top r [] l m t h = (l, m, t, tt)
merged_from-normal f top r (q ∷ qs) l m t h = elim (cases_lt (r.high + 1) q.low) [
  | inl k ↦ rw (lt-ltb (r.high + 1) q.low k)
      (l, m, t, merged_from-normal (r.high + 2) top q qs (omega arith) h.1 h.2 h.3)
  | inr k ↦ rw (le-ltb (r.high + 1) q.low k)
      (merged_from-normal f top (joined r q) qs (omega arith) (omega arith) (omega arith)
      (rising_lower (min r.low q.low) q.low top qs (omega arith) h.3))
]

pub merged_from-holds : (top : ℕ) (r : Range) (qs : List Range) (x : ℕ) → r.low ≤ r.high
    → Rising r.low top qs → holds (merged_from r qs) x ≡ (inside r x || holds qs x)
merged_from-holds top r [] x m h = refl
merged_from-holds top r (q ∷ qs) x m h = elim (cases_lt (r.high + 1) q.low) [
  | inl k ↦ rw (lt-ltb (r.high + 1) q.low k)
      (ap (λ t. inside r x || t) (merged_from-holds top q qs x h.1 h.3))
  | inr k ↦ rw (le-ltb (r.high + 1) q.low k)
      (merged_from-holds top (joined r q) qs x (omega arith)
      (rising_lower (min r.low q.low) q.low top qs (omega arith) h.3)
      ∙ ap (λ t. t || holds qs x)
      (joined-inside r.low r.high q.low q.high x m h.1 (omega arith) k)
      ∙ or_group (inside r x) (inside q x) (holds qs x))
]

pub merged-normal : (f top : ℕ) (rs : List Range) → Rising f top rs → IsNormal f top (merged rs)
merged-normal f top [] h = tt
merged-normal f top (r ∷ rs) h = merged_from-normal f top r rs h.0 h.1 h.2 h.3

pub merged-holds : (f top : ℕ) (rs : List Range) (x : ℕ) → Rising f top rs
    → holds (merged rs) x ≡ holds rs x
merged-holds f top [] x h = refl
merged-holds f top (r ∷ rs) x h = merged_from-holds top r rs x h.1 h.3

-- what is merged of the sorted ranges is their set
pub merged-computed : (top : ℕ) (ranges sorted slice vs : List Range)
    → All (λ r. IsRange top r) ranges → IsPermutation ranges sorted
    → IsNonDecreasingBy (λ (r : Range). r.low) sorted → slice ≡ sorted → vs ≡ merged slice
    → vs ≡ put_all ranges []
merged-computed top ranges sorted slice vs w p h d e =
    let all = recursion_from_All (λ (r : Range). IsRange top r) ranges w in
    let rising = sorted_rising top sorted (recursion_from_All (λ (r : Range). IsRange top r) sorted
    (All-permutation (λ (r : Range). IsRange top r) ranges sorted p w)) h in
    e ∙ ap (λ z. merged z) d
    ∙ one_list 0 0 top (merged sorted) (put_all ranges []) (merged-normal 0 top sorted rising)
    (put_all-normal top ranges [] all tt)
    (λ x. merged-holds 0 top sorted x rising
    ∙ sym (list_any-IsPermutation (λ (r : Range). inside r x) ranges sorted p)
    ∙ sym (put_all-holds top ranges [] x all tt))

pub ranges-normal : (top : ℕ) (ranges vs : List Range) → All (λ r. IsRange top r) ranges
    → vs ≡ put_all ranges [] → IsNormal 0 top vs
ranges-normal top ranges vs w e =
    let P : List Range → Type 0 = λ z. IsNormal 0 top z in
    subst P (sym e) (put_all-normal top ranges []
    (recursion_from_All (λ (r : Range). IsRange top r) ranges w) tt)

pub ranges-holds : (top : ℕ) (ranges vs : List Range) → All (λ r. IsRange top r) ranges
    → vs ≡ put_all ranges [] → (x : ℕ) → holds vs x ≡ holds ranges x
ranges-holds top ranges vs w e x =
    ap (λ z. holds z x) e ∙ put_all-holds top ranges [] x
    (recursion_from_All (λ (r : Range). IsRange top r) ranges w) tt
