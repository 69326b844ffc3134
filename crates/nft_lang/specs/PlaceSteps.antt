-- Elements of a list by their places: what is said of two elements, said of their places.
use Rattle.std.specs.Prelude.{ℕ, Bool, false, List, Option, Some, slice_get}
use Rattle.std.specs.Option.{option_map_or}

abbrev pub start_at : {A : Type 0} → (A → ℕ) → List A → ℕ → ℕ
start_at start xs place = option_map_or start (slice_get xs place) 0

abbrev pub is_below_where : {A : Type 0} → (A → A → Bool) → Option A → Option A → Bool
is_below_where below (Some x) (Some y) = below x y
is_below_where below a b = false

-- A place that is none is below no other.
abbrev pub is_below_at : {A : Type 0} → (A → A → Bool) → List A → ℕ → ℕ → Bool
is_below_at below xs place other = is_below_where below (slice_get xs place) (slice_get xs other)
