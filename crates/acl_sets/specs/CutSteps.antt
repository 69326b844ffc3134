-- The longest block at the low end of numbers, and ranges that are left to be cut: for private functions alone.
use Rattle.std.specs.Prelude.{ℕ, ◌≡◌, ◌+◌, ◌*◌, ◌^◌, ◌≤◌, ◌==◌, ◌&&◌, Bool, false, List, [], ◌∷◌, length, min}
use Rattle.acl_text.specs.Output.{COUNT_END}
use Rattle.acl_packet.specs.declared.addresses.Family.{Family}
use Rattle.acl_packet.specs.Addresses.{top_address}
use Rattle.acl_sets.specs.declared.sets.Range.{Range}
use Rattle.acl_sets.specs.Ranges.{IsNormal}
use Rattle.acl_sets.specs.ComputableLeastLists.{halved_space}

-- A block of 2 ^ free numbers can begin at first, at a multiple of its size, and ends at last at the
-- latest.
abbrev pub BlockFits : ℕ → ℕ → ℕ → Type 0
BlockFits first last free = ((n : ℕ) × (first ≡ n * 2 ^ free)) × (first + 2 ^ free ≤ last + 1)

-- The largest such block has 2 ^ free numbers.
pub record IsLongest (first last free : ℕ) : Type 0 where
  pub fits : BlockFits first last free
  pub longest : (other : ℕ) → BlockFits first last other → other ≤ free

-- Ranges whose first is left from a number on alone.
abbrev pub ranges_from : ℕ → List Range → List Range
ranges_from first [] = []
ranges_from first (r ∷ rs) = record { low = first; high = r.high } ∷ rs

-- The low end of the first of ranges.
abbrev pub low_end : List Range → ℕ
low_end [] = 0
low_end (r ∷ rs) = r.low

-- Ranges of addresses of a family, and how many prefixes their least list has.
pub record IsCut (f : Family) (rs : List Range) (count : ℕ) : Type 0 where
  pub normal : IsNormal 0 (top_address f) rs
  pub counted : count ≡ min (length (halved_space f rs)) COUNT_END

-- The first of ranges has all addresses of the family.
abbrev pub is_whole : Family → List Range → Bool
is_whole f [] = false
is_whole f (r ∷ rs) = r.low == 0 && r.high == top_address f
