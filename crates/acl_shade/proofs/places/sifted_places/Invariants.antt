-- The places so far are told.
use Rattle.std.proofs.Common.{◌≡◌, ℕ, ◌<◌, length, slice_index_or, None}
use Rattle.acl_shade.specs.ComputableShading.{shaded_by}
use Rattle.acl_shade.proofs.places.sifted_places.Given as goal

abbrev pub invariant-loop-place : goal.invariant-loop-place
invariant-loop-place l = record {
  size : length l.places ≡ l.place;
  each : (k : ℕ) → k < l.place → slice_index_or l.places k None ≡ shaded_by l.targets l.today l.terms k;
}
