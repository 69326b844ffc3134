use Rattle.std.proofs.Common.{◌≡◌, ℕ, ◌<◌, false, [], length, get_or}
use Rattle.acl_dead.specs.PlaceSteps.{has, words_for}
use Rattle.acl_dead.proofs.rows.empty_rows.Given as goal

abbrev pub invariant-loop : goal.invariant-loop
invariant-loop l = record {
  count : length l.out.items ≡ l.counter;
  lengths : (i : ℕ) → i < l.counter → length (get_or l.out.items i []) ≡ words_for l.places;
  empty : (i b : ℕ) → i < l.counter → has (get_or l.out.items i []) b ≡ false;
}
