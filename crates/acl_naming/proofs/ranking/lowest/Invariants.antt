use Rattle.std.proofs.Common.{◌≤◌, take}
use Rattle.std.specs.List.{All}
use Rattle.acl_naming.specs.RankSteps.{rank_at}
use Rattle.acl_naming.proofs.ranking.lowest.Given as goal

abbrev pub invariant-loop-place : goal.invariant-loop-place
invariant-loop-place l = All (λ j. l.least ≤ rank_at l.ranks j) (take l.place-index l.places)
