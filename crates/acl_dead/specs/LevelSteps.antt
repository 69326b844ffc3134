-- A grid, coordinate by coordinate: at each value, which boxes hold there.
use Rattle.std.specs.Prelude.{◌≡◌, ℕ, ◌<◌, Bool, true, ◌&&◌, List, [], ◌∷◌, length, slice_index_or, Option, Some, None}
use Rattle.std.specs.List.{All}
use Rattle.acl_dead.specs.declared.levels.Level.{Level}
use Rattle.acl_dead.specs.Order.{IsBefore}
use Rattle.acl_dead.specs.PlaceSteps.{has}

-- The boxes that hold at a value.
abbrev pub row_of : Level → ℕ → List ℕ
row_of l i = slice_index_or l.rows.items i []

-- A box has the point: it holds at the point's value of each coordinate.
abbrev pub has_point : List Level → List ℕ → ℕ → Bool
has_point [] point b = true
has_point (l ∷ ls) [] b = true
has_point (l ∷ ls) (i ∷ point) b = has (row_of l i) b && has_point ls point b

-- A point has the place of a value for each coordinate.
abbrev pub IsPoint : List Level → List ℕ → Type 0
IsPoint [] [] = Unit {0}
IsPoint [] (i ∷ point) = ⊥
IsPoint (l ∷ ls) [] = ⊥
IsPoint (l ∷ ls) (i ∷ point) = (i < length l.rows.items) × IsPoint ls point

-- No box of a set has the point.
abbrev pub IsFree : List Level → List ℕ → List ℕ → Type 0
IsFree ls boxes point = (b : ℕ) → has boxes b ≡ true → has_point ls point b ≡ true → ⊥

pub record IsFirstFree (ls : List Level) (boxes point : List ℕ) : Type 0 where
  pub within : IsPoint ls point
  pub free : IsFree ls boxes point
  pub first : (q : List ℕ) → IsPoint ls q → IsBefore q point → IsFree ls boxes q → ⊥

-- The first free point, or none where no point is free.
abbrev pub FindsFree : List Level → List ℕ → Option (List ℕ) → Type 0
FindsFree ls boxes None = (q : List ℕ) → IsPoint ls q → IsFree ls boxes q → ⊥
FindsFree ls boxes (Some point) = IsFirstFree ls boxes point

-- Each box of the set has each point.
abbrev pub IsCovered : List Level → List ℕ → Type 0
IsCovered ls boxes =
    (b : ℕ) (q : List ℕ) → has boxes b ≡ true → IsPoint ls q → has_point ls q b ≡ true

-- What a walk rests on: all sets have so many words, and `covered` has only boxes that have each
-- point of the coordinates behind.
pub record IsLevel (words : ℕ) (l : Level) (ls : List Level) : Type 0 where
  pub rows : All (λ r. length r ≡ words) l.rows.items
  pub covered : length l.covered ≡ words
  pub all_behind : IsCovered ls l.covered

abbrev pub IsLayered : ℕ → List Level → Type 0
IsLayered words [] = Unit {0}
IsLayered words (l ∷ ls) = IsLevel words l ls × IsLayered words ls
