use Rattle.std.proofs.Common.{◌≡◌, ◌<◌, ◌+◌, length}
use Rattle.std.specs.List.{All}
use Rattle.acl_naming.specs.RankSteps.{IsStepOf, steps_left}
use Rattle.acl_naming.proofs.ranking.rank_all.Given as goal

abbrev pub invariant-loop-step : goal.invariant-loop-step
invariant-loop-step l = record {
  ranked : length l.ranks ≡ length l.table;
  entered : length l.entered ≡ length l.table;
  steps : All (IsStepOf (length l.table)) l.steps.items;
  path : All (λ j. j < length l.table) l.path.items;
}

abbrev pub decreases-loop-step : goal.decreases-loop-step
decreases-loop-step l = length l.steps.items + steps_left l.table l.entered
