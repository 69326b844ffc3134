use Rattle.std.proofs.Common.{◌≡◌, ℕ, ◌+◌, ◌<◌, ◌≤◌, Bool, eqb, nat_lt, ◌&&◌, ◌||◌, List, [], length, get_or, refl, ap, ◌∙◌, arith, subst, inl, inr, eq-eqb}
use Rattle.std.proofs.lemmas.Bool.{cases_lt, cases_eq, ne_eqb, lt-ltb, le-ltb}
use Rattle.std.proofs.Math.Bool.{or-false}
use Rattle.std.proofs.lemmas.List.{get_or_default, get_or_past}
use Rattle.std.specs.List.{All}
use Rattle.acl_sets.specs.declared.sets.Range.{Range}
use Rattle.acl_sets.specs.Ranges.{IsNormal, holds}
use Rattle.acl_sets.specs.SweepSteps.{passed, begins_by}
use Rattle.acl_dead.proofs.SweepFacts.{begins-holds}
use Rattle.acl_dead.specs.PlaceSteps.{has}
use Rattle.acl_dead.specs.RowSteps.{PutsAlong}

-- a test that is made for the numbers up to one, and for one more
pub test_more : (test : ℕ → Bool) (now : Bool) (k i : ℕ) → now ≡ test i
    → ((eqb k i && now) || (nat_lt k i && test k)) ≡ (nat_lt k (i + 1) && test k)
test_more test now k i e = elim (cases_lt k i) [
  | inl below ↦ rw (ne_eqb k i (λ same. omega (arith, same)), lt-ltb k i below, lt-ltb k (i + 1) (omega arith)) refl
  | inr above ↦ elim (cases_eq k i) [
    | inl same ↦ rw (e, same, eq-eqb i i refl, le-ltb i i (omega arith), lt-ltb i (i + 1) (omega arith)) (or-false (test i))
    | inr other ↦ rw (ne_eqb k i other, le-ltb k i above, le-ltb k (i + 1) (omega arith)) refl
  ]
]

pub lengths_all : (n : ℕ) (rows : List (List ℕ)) → ((i : ℕ) → i < length rows → length (get_or rows i []) ≡ n)
    → All (λ r. length r ≡ n) rows
lengths_all n rows each k d lt =
    subst (λ (r : List ℕ). length r ≡ n) (get_or_default rows k [] d lt) (each k lt)

-- a sweep finds what the ranges hold
pub puts_held : (top : ℕ) (rs ranges : List Range) (place : ℕ) (xs : List ℕ) (old new : List (List ℕ))
    → ranges ≡ rs → IsNormal 0 top rs → PutsAlong (λ x. begins_by x (passed x ranges)) place xs old new
    → PutsAlong (λ x. holds rs x) place xs old new
puts_held top rs ranges place xs old new e n puts = record {
  count = puts.count;
  lengths = puts.lengths;
  exact = λ i b lt. puts.exact i b lt ∙ ap (λ t. (eqb b place && t) || has (get_or old i []) b)
      (ap (λ (ys : List Range). begins_by (get_or xs i 0) (passed (get_or xs i 0) ys)) e ∙ begins-holds 0 top rs (get_or xs i 0) n);
}

-- the rows after one side more
pub row_more : (held : ℕ → Bool) (now : Bool) (b place : ℕ) (before after : Bool) → now ≡ held place
    → after ≡ ((eqb b place && now) || before) → before ≡ (nat_lt b place && held b) → after ≡ (nat_lt b (place + 1) && held b)
row_more held now b place before after e step last =
    step ∙ ap (λ t. (eqb b place && now) || t) last ∙ test_more held now b place e

-- a side that is not there holds nothing
pub all_rows : (sides : List (List Range)) (x b n : ℕ) → length sides ≤ n
    → (nat_lt b n && holds (get_or sides b []) x) ≡ holds (get_or sides b []) x
all_rows sides x b n le = elim (cases_lt b n) [
  | inl below ↦ rw (lt-ltb b n below) refl
  | inr above ↦ rw (le-ltb b n above, get_or_past sides b [] (omega arith)) refl
]
