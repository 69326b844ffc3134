-- Numbers, and which of them were seen in sets so far.
use Rattle.std.specs.Prelude.{◌≡◌, ℕ, ◌<◌, ◌≤◌, true, false, length, slice_index, slice_index_or}
use Rattle.std.specs.List.Sorted.{IsNonDecreasing}
use Rattle.acl_sets.specs.Ranges.{Numbers, holds}
use Rattle.acl_shade.specs.declared.seen_numbers.SeenNumbers.{SeenNumbers}

-- The numbers rise, and of each it is told whether it was seen.
pub record AreNumbers (m : SeenNumbers) : Type 0 where
  pub rise : IsNonDecreasing m.points.items
  pub each : length m.seen.items ≡ length m.points.items

-- The number at the place was seen.
abbrev pub IsSeen : SeenNumbers → ℕ → Type 0
IsSeen m k = slice_index_or m.seen.items k false ≡ true

-- All numbers of the set were.
abbrev pub IsSeenAll : SeenNumbers → Numbers → Type 0
IsSeenAll m s = (k : ℕ) → k < length m.points.items → holds s.ranges (slice_index m.points.items k) ≡ true → IsSeen m k

-- More may be seen, of the same numbers.
pub record SeesMore (old new : SeenNumbers) : Type 0 where
  pub are : AreNumbers new
  pub points : new.points.items ≡ old.points.items
  pub keeps : (k : ℕ) → IsSeen old k → IsSeen new k

-- A number that was not seen stands at the place or behind it, and is not above the high one.
abbrev pub HasNewFrom : ℕ → ℕ → SeenNumbers → Type 0
HasNewFrom from high m = (k : ℕ) × (from ≤ k) × (k < length m.points.items) × (slice_index m.points.items k ≤ high)
    × (slice_index_or m.seen.items k false ≡ false)

-- A number of the set was not seen.
abbrev pub HasNew : SeenNumbers → Numbers → Type 0
HasNew m s = (k : ℕ) × (k < length m.points.items) × (holds s.ranges (slice_index m.points.items k) ≡ true)
    × (slice_index_or m.seen.items k false ≡ false)
