use Rattle.std.proofs.Common.{◌≡◌, ℕ, ◌<◌, ◌&&◌, nat_lt, [], length, map, get_or}
use Rattle.acl_sets.specs.Ranges.{holds}
use Rattle.acl_dead.specs.PlaceSteps.{has, words_for}
use Rattle.acl_dead.proofs.rows.make_rows.Given as goal

abbrev pub invariant-loop-place : goal.invariant-loop-place
invariant-loop-place l = record {
  count : length l.out.items ≡ length l.values;
  lengths : (i : ℕ) → i < length l.values → length (get_or l.out.items i []) ≡ words_for (length l.sides);
  places : (i b : ℕ) → i < length l.values → has (get_or l.out.items i []) b
      ≡ (nat_lt b l.place && holds (get_or (map (λ s. s.now.ranges) l.sides) b []) (get_or l.values i 0));
}
