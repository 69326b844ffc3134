-- How the terms that can shade one are sifted: for each number of a few it is marked which terms have it. A term that
-- lacks a number of another does not shade it.
use Rattle.std.specs.Prelude.{◌≡◌, ℕ, ◌+◌, ◌*◌, ◌/◌, ◌%◌, ◌<◌, Bool, true, not, ◌&&◌, List, length, slice_index, slice_index_or}
use Rattle.std.specs.Int.{bit_at}
use Rattle.acl_host.specs.declared.days.Day.{Day}
use Rattle.acl_packet.specs.declared.addresses.Family.{Family}
use Rattle.acl_sets.specs.ComputableSets.{is_all}
use Rattle.acl_sets.specs.Ranges.{Numbers, holds}
use Rattle.acl_target.specs.declared.targets.Target.{Target}
use Rattle.acl_terms.specs.declared.terms.Term.{Term}
use Rattle.acl_terms.specs.Resolved.{destination_in, either_in, is_empty_in, set_in, source_in}
use Rattle.acl_terms.specs.Soundness.{is_protocol}
use Rattle.acl_shade.specs.ComputableShading.{shades}
use Rattle.acl_shade.specs.declared.parts.Part.{Part}
use Rattle.acl_shade.specs.declared.parts.Part.TheVariants.{Numbered, Source, Destination, Either}
use Rattle.acl_shade.specs.Shading.{LiesWithin}

-- ---- parts of a term

abbrev pub part_of : Part → Term → Numbers
part_of (Numbered field) t = set_in field t
part_of (Source f) t = source_in f t
part_of (Destination f) t = destination_in f t
part_of (Either f) t = either_in f t

-- The term asks nothing of the sources and of the destinations.
abbrev pub asks_either_alone : Family → Term → Bool
asks_either_alone f t = is_all (source_in f t) && is_all (destination_in f t)

-- A term that shades this one has the numbers of this part of it. Protocols go by family.
abbrev pub is_asked : Part → Term → Bool
is_asked (Numbered field) t = not (is_protocol field)
is_asked (Source f) t = not (is_empty_in f t)
is_asked (Destination f) t = not (is_empty_in f t)
is_asked (Either f) t = not (is_empty_in f t) && asks_either_alone f t

-- ---- rows of bits

-- The bit is set.
unfoldable pub Has : List ℕ → ℕ → Type 0
Has words bit = bit_at (slice_index words (bit / 64)) (bit % 64) ≡ 1

-- The bit of a row is set, where a row has so many words.
abbrev pub RowHas : ℕ → List ℕ → ℕ → ℕ → Type 0
RowHas width words row bit = Has words (64 * (row * width) + bit)

-- In each row whose number is in the set the term's bit is set.
abbrev pub AreMarked : ℕ → List ℕ → List ℕ → ℕ → Numbers → Type 0
AreMarked width points rows place s = (k : ℕ) → k < length points
    → holds s.ranges (slice_index points k) ≡ true → RowHas width rows k place

-- Where the part of the later term lies within that of the earlier one, the later term's row has the bit of the earlier
-- one still.
abbrev pub KeepsWithin : ℕ → Part → List Term → List ℕ → List ℕ → Type 0
KeepsWithin width part terms old new = (i j : ℕ) (d : Term) → i < j → j < length terms
    → (is_asked part (slice_index_or terms j d) ≡ true
    → LiesWithin (part_of part (slice_index_or terms j d)) (part_of part (slice_index_or terms i d)))
    → RowHas width old j i → RowHas width new j i

-- An earlier term that shades a later one, on some targets and some day, has a bit in the row of the later one.
abbrev pub LeavesShading : ℕ → List Term → List ℕ → Type 0
LeavesShading width terms left = (targets : List Target) (today : Day) (i j : ℕ) (d : Term) → i < j → j < length terms
    → shades targets today (slice_index_or terms i d) (slice_index_or terms j d) ≡ true → RowHas width left j i

-- So it stays.
abbrev pub KeepsShading : ℕ → List Term → List ℕ → List ℕ → Type 0
KeepsShading width terms old new = LeavesShading width terms old → LeavesShading width terms new

-- None of the terms before this place is shaded, on any targets on any day.
abbrev pub NoneShadesTo : ℕ → List Term → Type 0
NoneShadesTo place terms = (targets : List Target) (today : Day) (i j : ℕ) (d : Term) → i < j → j < place
    → shades targets today (slice_index_or terms i d) (slice_index_or terms j d) ≡ true → ⊥

-- None of the terms is.
abbrev pub NoneShades : List Term → Type 0
NoneShades terms = NoneShadesTo (length terms) terms
