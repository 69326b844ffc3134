use Rattle.std.proofs.Common.{◌≡◌, ℕ, ◌<◌, ◌≤◌, ◌&&◌, ◌||◌, eqb, nat_lt, [], length, get_or}
use Rattle.acl_sets.specs.SweepSteps.{passed, begins_by}
use Rattle.acl_dead.specs.PlaceSteps.{has}
use Rattle.acl_dead.proofs.rows.put_along.Given as goal

abbrev pub invariant-loop-i : goal.invariant-loop-i
invariant-loop-i l = record {
  count : length l.rows.items ≡ length l.fn.rows.items;
  lengths : (k : ℕ) → length (get_or l.rows.items k []) ≡ length (get_or l.fn.rows.items k []);
  places : (k b : ℕ) → k < length l.values → has (get_or l.rows.items k []) b
      ≡ ((nat_lt k l.i && (eqb b l.place && begins_by (get_or l.values k 0) (passed (get_or l.values k 0) l.fn.ranges)))
      || has (get_or l.fn.rows.items k []) b);
  passed_by : (k : ℕ) → l.i ≤ k → k < length l.values
      → passed (get_or l.values k 0) l.rest ≡ passed (get_or l.values k 0) l.fn.ranges;
}
