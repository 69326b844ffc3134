use Rattle.std.proofs.Common.{◌≡◌, ℕ, nat_lt, length}
use Rattle.acl_dead.specs.PlaceSteps.{has, words_for}
use Rattle.acl_dead.proofs.places.Places.below.Given as goal

abbrev pub invariant-loop-place : goal.invariant-loop-place
invariant-loop-place l =
    (length l.out ≡ words_for l.count) × ((b : ℕ) → has l.out b ≡ nat_lt b l.place)
