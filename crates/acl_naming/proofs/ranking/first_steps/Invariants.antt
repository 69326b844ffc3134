use Rattle.std.proofs.Common.{length}
use Rattle.std.specs.List.{All}
use Rattle.acl_naming.specs.RankSteps.{IsStepOf}
use Rattle.acl_naming.proofs.ranking.first_steps.Given as goal

abbrev pub invariant-loop-i : goal.invariant-loop-i
invariant-loop-i l = All (IsStepOf (length l.table)) l.steps.items
