-- Marks of which terms have some numbers, while they are set.
use Rattle.std.specs.Prelude.{◌≡◌, ℕ, ◌+◌, ◌*◌, ◌<◌, ◌≤◌, ◌⊎◌, List, length}
use Rattle.std.specs.List.Sorted.{IsNonDecreasing}
use Rattle.acl_shade.specs.declared.marks.Marks.{Marks}
use Rattle.acl_shade.specs.Sifting.{Has}

-- The numbers rise, and each has a row.
pub record AreMarks (m : Marks) : Type 0 where
  pub rise : IsNonDecreasing m.points.items
  pub rows : length m.rows.items ≡ length m.points.items * m.width
  pub counts : length m.counts.items ≡ length m.points.items

-- More may be set, of the same numbers.
pub record MarksMore (old new : Marks) : Type 0 where
  pub are : AreMarks new
  pub points : new.points.items ≡ old.points.items
  pub width : new.width ≡ old.width
  pub keeps : (bit : ℕ) → Has old.rows.items bit → Has new.rows.items bit

-- Beside one row of so many words nothing is lost.
pub record KeepsBeside (row width : ℕ) (old new : List ℕ) : Type 0 where
  pub size : length new ≡ length old
  pub beside : (bit : ℕ) → (bit < 64 * (row * width)) ⊎ (64 * (row * width + width) ≤ bit) → Has old bit → Has new bit
