-- Sets of whole numbers from 0 to a top, as lists of ranges. Union, intersection and difference are
-- those of the algebra of sets: membership is told number by number, by `||`, `&&` and `not`.
use Rattle.std.specs.Prelude.{ℕ, ◌≡◌, ◌+◌, ◌≤◌, Bool, true, ◌&&◌, nat_le, List, [], ◌∷◌}
use Rattle.std.specs.List.{list_any}
use Rattle.acl_sets.specs.declared.sets.Range.{Range}

-- A number is inside a range: both ends belong to it.
abbrev pub inside : Range → ℕ → Bool
inside r x = nat_le r.low x && nat_le x r.high

-- A list of ranges holds a number: some range has it inside.
abbrev pub holds : List Range → ℕ → Bool
holds rs x = list_any (λ r. inside r x) rs

-- A range of numbers up to a top: it is not empty, and ends there at the latest.
abbrev pub IsRange : ℕ → Range → Type 0
IsRange top r = (r.low ≤ r.high) × (r.high ≤ top)

-- A list in normal form: ranges of numbers from a floor to a top, in rising order, disjoint and not
-- touching, so that at least one number lies between the end of one and the low end of the next.
abbrev pub IsNormal : ℕ → ℕ → List Range → Type 0
IsNormal floor top [] = Unit {0}
IsNormal floor top (r ∷ rs) =
    (floor ≤ r.low) × (r.low ≤ r.high) × (r.high ≤ top) × IsNormal (r.high + 2) top rs

-- What a contract sees of a set: the greatest number that it may hold, and its ranges.
pub record Numbers : Type 0 where
  pub top : ℕ
  pub ranges : List Range

-- The set has only numbers that pass a test.
abbrev pub Only : (ℕ → Bool) → Numbers → Type 0
Only test s = (x : ℕ) → holds s.ranges x ≡ true → test x ≡ true

-- A set of numbers has one list in normal form.
abbrev pub OneNormalList : Type 0
OneNormalList = (floor top : ℕ) (rs ss : List Range) → IsNormal floor top rs → IsNormal floor top ss
    → ((x : ℕ) → holds rs x ≡ holds ss x) → rs ≡ ss
