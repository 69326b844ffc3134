-- What private functions give on the way to a set of addresses.
use Rattle.std.specs.Prelude.{◌≡◌, ◌↔◌, ℕ, ◌≤◌, true, not, ◌&&◌, nat_le, List}
use Rattle.std.specs.List.{All}
use Rattle.acl_sets.specs.declared.sets.Range.{Range}
use Rattle.acl_sets.specs.Ranges.{Numbers, IsNormal, IsRange, holds}

-- The ranges hold, up to the top, exactly the numbers of which the fact holds.
pub record AreRangesOf (P : ℕ → Type 0) (top : ℕ) (rs : List Range) : Type 0 where
  pub fits : All (λ r. IsRange top r) rs
  pub exact : (x : ℕ) → x ≤ top → (holds rs x ≡ true) ↔ P x

-- The set holds the numbers of the ranges.
pub record HoldsSame (top : ℕ) (rs : List Range) (s : Numbers) : Type 0 where
  pub top_is : s.top ≡ top
  pub normal : IsNormal 0 s.top s.ranges
  pub same : (x : ℕ) → holds s.ranges x ≡ holds rs x

-- The set holds all numbers up to the top.
pub record HoldsAll (top : ℕ) (s : Numbers) : Type 0 where
  pub top_is : s.top ≡ top
  pub normal : IsNormal 0 s.top s.ranges
  pub all : (x : ℕ) → holds s.ranges x ≡ nat_le x top

-- The last set holds the numbers of the first one that are not in the second one.
pub record IsLess (s m u : Numbers) : Type 0 where
  pub top_is : u.top ≡ s.top
  pub normal : IsNormal 0 u.top u.ranges
  pub exact : (x : ℕ) → holds u.ranges x ≡ (holds s.ranges x && not (holds m.ranges x))
