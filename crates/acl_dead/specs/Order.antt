-- The order of lists of numbers, the first difference telling.
use Rattle.std.specs.Prelude.{◌≡◌, ℕ, ◌<◌, ◌⊎◌, List, [], ◌∷◌}

abbrev pub IsBefore : List ℕ → List ℕ → Type 0
IsBefore [] q = ⊥
IsBefore (i ∷ p) [] = ⊥
IsBefore (i ∷ p) (j ∷ q) = (i < j) ⊎ ((i ≡ j) × IsBefore p q)
