-- The ranges of a set as they are held: for private functions alone.
use Rattle.std.specs.Prelude.{ℕ, Bool, true, false, List, [], ◌∷◌, ◌≡◌, ◌==◌, map}
use Rattle.acl_sets.specs.declared.sets.Range.{Range}
use Rattle.acl_sets.specs.declared.range_lists.Held.{Held}
use Rattle.acl_sets.specs.declared.range_lists.Held.TheVariants.{None, Octets, Ports, Ipv6, One, Many, NoShort, OneShort, ManyShort}
use Rattle.acl_sets.specs.declared.slices.Slices.{Slices}
use Rattle.acl_sets.specs.declared.slices.Slices.TheVariants.{Long, Short}
use Rattle.acl_sets.specs.Ranges.{IsNormal}
use Rattle.acl_sets.specs.Spans.{same, short_top, wide}

-- The one range of all numbers up to a top.
abbrev pub all_up_to : ℕ → List Range
all_up_to top = record { low = 0; high = top } ∷ []

abbrev pub ranges_in : Held → List Range
ranges_in None = []
ranges_in Octets = all_up_to 255
ranges_in Ports = all_up_to 65535
ranges_in Ipv6 = all_up_to 340282366920938463463374607431768211455
ranges_in (One rs) = map same rs.value
ranges_in (Many rs) = map same rs
ranges_in NoShort = []
ranges_in (OneShort rs) = map wide rs
ranges_in (ManyShort rs) = map wide rs

-- They are held in numbers of 32 bits.
abbrev pub is_held_short : Held → Bool
is_held_short None = false
is_held_short Octets = false
is_held_short Ports = false
is_held_short Ipv6 = false
is_held_short (One rs) = false
is_held_short (Many rs) = false
is_held_short NoShort = true
is_held_short (OneShort rs) = true
is_held_short (ManyShort rs) = true

abbrev pub slice_ranges : Slices → List Range
slice_ranges (Long rs) = map same rs.now
slice_ranges (Short rs) = map wide rs.now

abbrev pub is_short_slice : Slices → Bool
is_short_slice (Long rs) = false
is_short_slice (Short rs) = true

-- What is seen of held ranges: their list, and how they are held.
pub record Listed : Type 0 where
  pub ranges : List Range
  pub is_short : Bool

-- The ranges of a set up to a top are in normal form, and held short where it is that of 32 bits.
pub record IsKept (top : ℕ) (l : Listed) : Type 0 where
  pub normal : IsNormal 0 top l.ranges
  pub kind : l.is_short ≡ (top == short_top)
