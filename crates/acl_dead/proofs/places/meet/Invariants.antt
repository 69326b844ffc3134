use Rattle.std.proofs.Common.{◌≡◌, ℕ, ◌<◌, length, get_or, bit_and}
use Rattle.acl_dead.proofs.places.meet.Given as goal

abbrev pub invariant-loop-i : goal.invariant-loop-i
invariant-loop-i l =
    (length l.out.items ≡ l.i) × ((k : ℕ) → k < l.i → get_or l.out.items k 0 ≡ bit_and (get_or l.words k 0) (get_or l.others k 0))
