use Rattle.std.proofs.Common.{length, ℕ, List, ◌∷◌, ◌<◌}
use Rattle.acl_dead.specs.LevelSteps.{IsPoint, IsFree}
use Rattle.acl_dead.proofs.walks.+first_free_below.Given as goal

abbrev pub decreases-first_free_below : goal.decreases-first_free_below
decreases-first_free_below l = length l.levels.now

abbrev pub invariant-loop-step : goal.invariant-loop-step
invariant-loop-step l =
    (k : ℕ) (q : List ℕ) → k < l.step → IsPoint l.behind q → IsFree l.levels l.boxes (k ∷ q) → ⊥
