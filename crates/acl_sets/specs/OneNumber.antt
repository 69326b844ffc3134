-- A set that has exactly one number.
use Rattle.std.specs.Prelude.{◌≡◌, ℕ, [], ◌∷◌}
use Rattle.acl_sets.specs.Ranges.{Numbers}

abbrev pub IsOneNumber : Numbers → Type 0
IsOneNumber s = (n : ℕ) × (s.ranges ≡ record { low = n; high = n } ∷ [])
