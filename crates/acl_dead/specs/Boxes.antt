-- Boxes over the axes of a space of numbers: a box has a side along each axis, which is a set of numbers. On each axis
-- some values are chosen, which make a grid.
use Rattle.std.specs.Prelude.{◌≡◌, ℕ, ◌↔◌, ◌*◌, ◌<◌, ◌≤◌, Bool, true, ◌&&◌, ◌||◌, ◌==◌, List, [], ◌∷◌, map, slice_index_or, length, Contains, Option, Some, None}
use Rattle.std.specs.List.{list_any}
use Rattle.std.specs.List.Sorted.{IsStrictlyIncreasing}
use Rattle.acl_sets.specs.declared.sets.Range.{Range}
use Rattle.acl_sets.specs.Ranges.{holds}
use Rattle.acl_dead.specs.declared.axes.Axis.{Axis}
use Rattle.acl_dead.specs.Order.{IsBefore}
use Rattle.acl_dead.specs.Runs.{begins, cuts, has_ended, is_boundary}

-- ---- axes

-- The numbers that are asked for along an axis.
abbrev pub is_own : Axis → ℕ → Bool
is_own a x = holds a.own.now.ranges x

-- The side of a box along an axis.
abbrev pub side_of : Axis → ℕ → List Range
side_of a b = slice_index_or (map (λ s. s.now.ranges) a.sides.items) b []

-- One of the sets cuts at the number, or it is one of the numbers.
abbrev pub is_cut_by : List (List Range) → List ℕ → ℕ → Bool
is_cut_by sets numbers x = list_any (λ rs. cuts (λ y. holds rs y) x) sets || list_any (λ n. n == x) numbers

-- The values are exactly the boundaries of the set under the cuts, in rising order.
pub record AreBoundaries (own : List Range) (sets : List (List Range)) (numbers values : List ℕ) : Type 0 where
  pub rising : IsStrictlyIncreasing values
  pub exact : (x : ℕ) → Contains values x
      ↔ (is_boundary (λ y. holds own y) (is_cut_by sets numbers) x ≡ true)

-- The axis can be searched: its values rise, are asked for, and stand where each run of these begins and where in them
-- a run of a side has ended; and each box has a side.
pub record IsReady (boxes : ℕ) (a : Axis) : Type 0 where
  pub sides : length a.sides.items ≡ boxes
  pub rising : IsStrictlyIncreasing a.values.items
  pub owned : (x : ℕ) → Contains a.values.items x → is_own a x ≡ true
  pub begun : (x : ℕ) → begins (is_own a) x ≡ true → Contains a.values.items x
  pub ended : (b x : ℕ) → is_own a x ≡ true → has_ended (λ y. holds (side_of a b) y) x ≡ true
      → Contains a.values.items x

-- ---- points, by a number on each axis

-- A point that is asked for, along each axis.
abbrev pub IsAsked : List Axis → List ℕ → Type 0
IsAsked [] [] = Unit {0}
IsAsked [] (x ∷ xs) = ⊥
IsAsked (a ∷ axes) [] = ⊥
IsAsked (a ∷ axes) (x ∷ xs) = (is_own a x ≡ true) × IsAsked axes xs

-- A point of the grid has a value of each axis.
abbrev pub IsOnGrid : List Axis → List ℕ → Type 0
IsOnGrid [] [] = Unit {0}
IsOnGrid [] (x ∷ xs) = ⊥
IsOnGrid (a ∷ axes) [] = ⊥
IsOnGrid (a ∷ axes) (x ∷ xs) = Contains a.values.items x × IsOnGrid axes xs

-- How many points the grid has.
abbrev pub grid_size : List Axis → ℕ
grid_size [] = 1
grid_size (a ∷ axes) = length a.values.items * grid_size axes

-- A box has the point: each side holds the point's number.
abbrev pub is_inside : List Axis → List ℕ → ℕ → Bool
is_inside [] xs b = true
is_inside (a ∷ axes) [] b = true
is_inside (a ∷ axes) (x ∷ xs) b = holds (side_of a b) x && is_inside axes xs b

-- The point lies in none of the boxes.
abbrev pub IsClear : List Axis → ℕ → List ℕ → Type 0
IsClear axes boxes xs = (b : ℕ) → b < boxes → is_inside axes xs b ≡ true → ⊥

-- ---- the answer

-- The first point of the grid that lies in none of the boxes.
pub record IsFirstClear (axes : List Axis) (boxes : ℕ) (ys : List ℕ) : Type 0 where
  pub asked : IsAsked axes ys
  pub on_grid : IsOnGrid axes ys
  pub clear : IsClear axes boxes ys
  pub first : (qs : List ℕ) → IsOnGrid axes qs → IsBefore qs ys → IsClear axes boxes qs → ⊥

-- That point; or none, and then each point that is asked for lies in a box, whether it is on the grid or not.
abbrev pub FindsClear : List Axis → ℕ → Option (List ℕ) → Type 0
FindsClear axes boxes None = (xs : List ℕ) → IsAsked axes xs → IsClear axes boxes xs → ⊥
FindsClear axes boxes (Some ys) = IsFirstClear axes boxes ys

-- ---- why a grid is enough

-- The greatest value not above a number.
pub record IsFloor (values : List ℕ) (x y : ℕ) : Type 0 where
  pub among : Contains values y
  pub below : y ≤ x
  pub greatest : (z : ℕ) → Contains values z → z ≤ x → z ≤ y

abbrev pub AreFloors : List Axis → List ℕ → List ℕ → Type 0
AreFloors [] [] [] = Unit {0}
AreFloors [] [] (y ∷ ys) = ⊥
AreFloors [] (x ∷ xs) ys = ⊥
AreFloors (a ∷ axes) [] ys = ⊥
AreFloors (a ∷ axes) (x ∷ xs) [] = ⊥
AreFloors (a ∷ axes) (x ∷ xs) (y ∷ ys) = IsFloor a.values.items x y × AreFloors axes xs ys

-- A point, rounded down on each axis to the greatest value not above, is still asked for and comes into no new box.
pub record RoundsTo (axes : List Axis) (xs ys : List ℕ) : Type 0 where
  pub floors : AreFloors axes xs ys
  pub asked : IsAsked axes ys
  pub on_grid : IsOnGrid axes ys
  pub no_new_box : (b : ℕ) → is_inside axes ys b ≡ true → is_inside axes xs b ≡ true
