use Rattle.std.proofs.Common.{◌≡◌, ℕ, ◌+◌, ◌<◌, ◌≤◌, Bool, true, false, ◌&&◌, ◌||◌, nat_le, List, [], ◌∷◌, length, get_or, refl, sym, ap, ◌∙◌, arith, inl, inr}
use Rattle.std.proofs.lemmas.Bool.{cases_lt, lt-ltb, le-ltb, lt-leb, le-leb, or_from, and_right, and_left, false≢true}
use Rattle.std.proofs.lemmas.List.Kept.{AllPairs-from_increasing}
use Rattle.std.specs.List.Sorted.{IsStrictlyIncreasing}
use Rattle.acl_sets.specs.declared.sets.Range.{Range}
use Rattle.acl_sets.specs.Ranges.{holds, IsNormal}
use Rattle.acl_sets.specs.SweepSteps.{passed, begins_by}

pub passed-passed : (g h : ℕ) (rs : List Range) → h ≤ g → passed g (passed h rs) ≡ passed g rs
passed-passed g h [] le = refl
passed-passed g h (r ∷ rs) le = elim (cases_lt r.high h) [
  | inl below ↦ rw (lt-ltb r.high h below, lt-ltb r.high g (omega arith)) (passed-passed g h rs le)
  | inr above ↦ rw (le-ltb r.high h above) refl
]

pub below_floor : (floor top : ℕ) (rs : List Range) (x : ℕ) → IsNormal floor top rs → x < floor → holds rs x ≡ false
below_floor floor top [] x n lt = refl
below_floor floor top (r ∷ rs) x n lt =
    let a = n.0 in let b = n.1 in
    or_from _ _ (and_left (nat_le r.low x) (nat_le x r.high) (lt-leb r.low x (omega arith)))
    (below_floor (r.high + 2) top rs x n.3 (omega arith))

with_nothing : (a b c : Bool) → b ≡ true → c ≡ false → a ≡ ((a && b) || c)
with_nothing true true false e f = refl
with_nothing true false c e f = absurd (false≢true e)
with_nothing true true true e f = absurd (false≢true (sym f))
with_nothing false b false e f = refl
with_nothing false b true e f = absurd (false≢true (sym f))

pub begins-holds : (floor top : ℕ) (rs : List Range) (x : ℕ) → IsNormal floor top rs
    → begins_by x (passed x rs) ≡ holds rs x
begins-holds floor top [] x n = refl
begins-holds floor top (r ∷ rs) x n = elim (cases_lt r.high x) [
  | inl below ↦ rw (lt-ltb r.high x below) (begins-holds (r.high + 2) top rs x n.3
      ∙ ap (λ t. t || holds rs x) (sym (and_right (nat_le r.low x) (nat_le x r.high) (lt-leb x r.high below))))
  | inr above ↦ rw (le-ltb r.high x above)
      (with_nothing (nat_le r.low x) (nat_le x r.high) (holds rs x) (le-leb x r.high above)
      (below_floor (r.high + 2) top rs x n.3 (omega arith)))
]

-- the step of the sweep
pub sweep_more : (rs rest : List Range) (xs : List ℕ) (i : ℕ) → IsStrictlyIncreasing xs → i < length xs
    → ((k : ℕ) → i ≤ k → k < length xs → passed (get_or xs k 0) rest ≡ passed (get_or xs k 0) rs)
    → (k : ℕ) → i + 1 ≤ k → k < length xs
    → passed (get_or xs k 0) (passed (get_or xs i 0) rest) ≡ passed (get_or xs k 0) rs
sweep_more rs rest xs i rising within before k le lt =
    let less = AllPairs-from_increasing xs rising i k 0 (omega arith) lt in
    passed-passed (get_or xs k 0) (get_or xs i 0) rest (omega arith) ∙ before k (omega arith) lt
