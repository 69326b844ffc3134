-- Marks at places, each of which leads to others: what the private functions of src/marking.rt give. That the
-- places are what walks reach is proved in proofs/.
use Rattle.std.specs.Prelude.{◌≡◌, ℕ, zero, suc, Bool, true, false, ◌==◌, if◌then◌else◌, List, [], ◌∷◌, ◌++◌, slice_set, slice_index_or}
use Rattle.std.specs.List.{list_any}

-- Whether the place has a mark.
abbrev pub marked : List Bool → ℕ → Bool
marked m i = slice_index_or m i false

-- Marks at all of the places.
abbrev pub mark_all : List ℕ → List Bool → List Bool
mark_all [] m = m
mark_all (j ∷ js) m = mark_all js (slice_set m j true)

-- Those of the places that have no mark, each once.
abbrev pub unmarked : List ℕ → List Bool → List ℕ
unmarked [] m = []
unmarked (j ∷ js) m = (if marked m j then [] else j ∷ []) ++ unmarked js (slice_set m j true)

-- The place is among the places.
abbrev pub among : ℕ → List ℕ → Bool
among j js = list_any (λ k. k == j) js

-- The place i leads to the place j.
abbrev pub leads : List (List ℕ) → ℕ → ℕ → Bool
leads [] i j = false
leads (js ∷ g) zero j = among j js
leads (js ∷ g) (suc i) j = leads g i j

-- What one of the places leads to is one of them.
abbrev pub AreClosed : List (List ℕ) → List ℕ → Type 0
AreClosed g places =
    (i j : ℕ) → among i places ≡ true → leads g i j ≡ true → among j places ≡ true
