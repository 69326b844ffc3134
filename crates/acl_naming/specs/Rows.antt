-- Lists that stand one behind the other in one list, by the places where they begin.
use Rattle.std.specs.Prelude.{ℕ, ◌≤◌, zero, suc, List, [], ◌∷◌, length}
use Rattle.std.specs.List.{slice_range}

-- Where the list at an index begins; the end, where there is none.
abbrev pub begin_at : List ℕ → ℕ → ℕ → ℕ
begin_at [] i end = end
begin_at (b ∷ bs) zero end = b
begin_at (b ∷ bs) (suc i) end = begin_at bs i end

-- Each begins not before the one ahead of it, and none behind the end.
abbrev pub Ascend : List ℕ → ℕ → Type 0
Ascend [] end = Unit {0}
Ascend (b ∷ bs) end = (b ≤ begin_at bs 0 end) × Ascend bs end

-- The lists. Each ends where the next begins.
abbrev pub rows_of : {X : Type 0} → List ℕ → List X → List (List X)
rows_of [] items = []
rows_of (b ∷ bs) items = slice_range items b (begin_at bs 0 (length items)) ∷ rows_of bs items
