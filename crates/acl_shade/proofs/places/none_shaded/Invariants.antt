-- So many places are told, and none is one of a term.
use Rattle.std.proofs.Common.{◌≡◌, ℕ, ◌<◌, length, slice_index_or, None}
use Rattle.acl_shade.proofs.places.none_shaded.Given as goal

abbrev pub invariant-loop : goal.invariant-loop
invariant-loop l = record {
  size : length l.places ≡ l.counter;
  none : (k : ℕ) → k < l.counter → slice_index_or l.places k None ≡ None;
}
