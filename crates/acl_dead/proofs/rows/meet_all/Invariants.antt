use Rattle.std.proofs.Common.{◌≡◌, ℕ, ◌&&◌, length, take}
use Rattle.std.specs.List.{list_all}
use Rattle.acl_dead.specs.PlaceSteps.{has}
use Rattle.acl_dead.proofs.rows.meet_all.Given as goal

abbrev pub invariant-loop-row : goal.invariant-loop-row
invariant-loop-row l =
    (length l.out ≡ length l.first) × ((b : ℕ) → has l.out b ≡ (has l.first b && list_all (λ r. has r b) (take l.row-index l.rows)))
