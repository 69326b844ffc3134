-- How places are put into the rows of values: for private functions alone.
use Rattle.std.specs.Prelude.{◌≡◌, ℕ, ◌<◌, Bool, ◌&&◌, ◌||◌, ◌==◌, List, [], length, slice_index, slice_index_or}
use Rattle.acl_dead.specs.PlaceSteps.{has}

-- The place is in the row at a number, where it is to be there, besides all that was there.
pub record PutsAt (at place : ℕ) (is_there : Bool) (old new : List (List ℕ)) : Type 0 where
  pub count : length new ≡ length old
  pub lengths : (i : ℕ) → length (slice_index_or new i []) ≡ length (slice_index_or old i [])
  pub exact : (i b : ℕ) → has (slice_index_or new i []) b
      ≡ ((i == at && (b == place && is_there)) || has (slice_index_or old i []) b)

-- The place is in the row of each value that passes the test, besides all that was there.
pub record PutsAlong (test : ℕ → Bool) (place : ℕ) (values : List ℕ) (old new : List (List ℕ)) : Type 0 where
  pub count : length new ≡ length old
  pub lengths : (i : ℕ) → length (slice_index_or new i []) ≡ length (slice_index_or old i [])
  pub exact : (i b : ℕ) → i < length values → has (slice_index_or new i []) b
      ≡ ((b == place && test (slice_index values i)) || has (slice_index_or old i []) b)
