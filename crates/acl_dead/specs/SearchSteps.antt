-- The search among the places of values, for private functions alone.
use Rattle.std.specs.Prelude.{◌≡◌, ℕ, ◌<◌, Bool, true, ◌&&◌, List, [], ◌∷◌, length, slice_index, Option, Some, None}
use Rattle.std.specs.List.Sorted.{IsStrictlyIncreasing}
use Rattle.acl_sets.specs.Ranges.{holds}
use Rattle.acl_dead.specs.declared.axes.Axis.{Axis}
use Rattle.acl_dead.specs.declared.levels.Level.{Level}
use Rattle.acl_dead.specs.Boxes.{side_of}
use Rattle.acl_dead.specs.Order.{IsBefore}
use Rattle.acl_dead.specs.PlaceSteps.{has}
use Rattle.acl_dead.specs.LevelSteps.{row_of}

-- The values rise, and each box has a side.
pub record IsSized (boxes : ℕ) (a : Axis) : Type 0 where
  pub sides : length a.sides.items ≡ boxes
  pub rising : IsStrictlyIncreasing a.values.items

-- A point by the place of a value on each axis.
abbrev pub IsPlace : List Axis → List ℕ → Type 0
IsPlace [] [] = Unit {0}
IsPlace [] (i ∷ p) = ⊥
IsPlace (a ∷ axes) [] = ⊥
IsPlace (a ∷ axes) (i ∷ p) = (i < length a.values.items) × IsPlace axes p

-- Its numbers.
abbrev pub numbers_of : List Axis → List ℕ → List ℕ
numbers_of [] p = []
numbers_of (a ∷ axes) [] = []
numbers_of (a ∷ axes) (i ∷ p) = slice_index a.values.items i ∷ numbers_of axes p

-- The box has it.
abbrev pub box_has : List Axis → List ℕ → ℕ → Bool
box_has [] p b = true
box_has (a ∷ axes) [] b = true
box_has (a ∷ axes) (i ∷ p) b = holds (side_of a b) (slice_index a.values.items i) && box_has axes p b

-- It lies outside of all boxes.
abbrev pub IsOutside : List Axis → ℕ → List ℕ → Type 0
IsOutside axes boxes p = (b : ℕ) → b < boxes → box_has axes p b ≡ true → ⊥

pub record IsFirstOutside (axes : List Axis) (boxes : ℕ) (p : List ℕ) : Type 0 where
  pub within : IsPlace axes p
  pub outside : IsOutside axes boxes p
  pub first : (q : List ℕ) → IsPlace axes q → IsBefore q p → IsOutside axes boxes q → ⊥

-- The first one outside, or none where each lies in a box.
abbrev pub FindsOutside : List Axis → ℕ → Option (List ℕ) → Type 0
FindsOutside axes boxes None = (q : List ℕ) → IsPlace axes q → IsOutside axes boxes q → ⊥
FindsOutside axes boxes (Some p) = IsFirstOutside axes boxes p

-- ---- rows

-- A level has a row for each value, with the boxes whose sides hold it.
pub record IsLevelOf (a : Axis) (l : Level) : Type 0 where
  pub rows : length l.rows.items ≡ length a.values.items
  pub bits : (i b : ℕ) → i < length a.values.items
      → has (row_of l i) b ≡ holds (side_of a b) (slice_index a.values.items i)

abbrev pub AreLevels : List Axis → List Level → Type 0
AreLevels [] [] = Unit {0}
AreLevels [] (l ∷ ls) = ⊥
AreLevels (a ∷ axes) [] = ⊥
AreLevels (a ∷ axes) (l ∷ ls) = IsLevelOf a l × AreLevels axes ls
