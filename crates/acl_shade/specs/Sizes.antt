-- How many numbers the sets of terms have. A set that holds another has no fewer, and none but those where it has as many.
use Rattle.std.specs.Prelude.{◌≡◌, ℕ, ◌+◌, ◌-◌, ◌%◌, ◌^◌, ◌<◌, ◌≤◌, List, length, slice_index_or}
use Rattle.std.specs.List.{fold, sum_by}
use Rattle.acl_sets.specs.declared.sets.Range.{Range}
use Rattle.acl_sets.specs.Ranges.{Numbers}
use Rattle.acl_terms.specs.declared.terms.Term.{Term}
use Rattle.acl_shade.specs.declared.parts.Part.{Part}
use Rattle.acl_shade.specs.declared.sizes.Growing.{Growing}
use Rattle.acl_shade.specs.declared.sizes.Measure.{Measure}
use Rattle.acl_shade.specs.Sifting.{part_of}
use Rattle.acl_shade.specs.Shading.{LiesWithin}

-- The numbers of ranges that lie apart.
abbrev pub size_of : List Range → ℕ
size_of rs = sum_by (λ r. r.high - r.low + 1) rs

-- The sum of the low ends, in 64 bits.
abbrev pub sum_of : List Range → ℕ
sum_of rs = fold (λ sum r. (sum + r.low) % 2 ^ 64) 0 rs

abbrev pub IsMeasure : Measure → Numbers → Type 0
IsMeasure m s = (m.size ≡ size_of s.ranges) × (m.sum ≡ sum_of s.ranges)

-- The ranges of a part of one of the terms.
abbrev pub ranges_at : Part → List Term → ℕ → Term → List Range
ranges_at part terms i d = (part_of part (slice_index_or terms i d)).ranges

-- As many terms as have a sum have no more numbers than is said, and those before the place that is said have fewer. Behind
-- it no sum is greater than the one that is said.
pub record AreGrown (part : Part) (terms : List Term) (g : Growing) : Type 0 where
  pub sums : (i n : ℕ) (d : Term) → i < length g.sums.items → slice_index_or g.sums.items i n ≡ sum_of (ranges_at part terms i d)
  pub most : (i : ℕ) (d : Term) → i < length g.sums.items → size_of (ranges_at part terms i d) ≤ g.size
  pub fewer : (i : ℕ) (d : Term) → i < g.from → size_of (ranges_at part terms i d) < g.size
  pub above : (i n : ℕ) → g.from ≤ i → i < length g.sums.items → slice_index_or g.sums.items i n ≤ g.most

-- The numbers lie within the part of none of so many first terms.
abbrev pub NoneHolds : Part → Numbers → ℕ → List Term → Type 0
NoneHolds part s count terms = (i : ℕ) (d : Term) → i < count → LiesWithin s (part_of part (slice_index_or terms i d)) → ⊥
