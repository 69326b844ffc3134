use Rattle.std.proofs.Common.{◌≡◌, ◌<◌, length}
use Rattle.std.specs.List.{All}
use Rattle.acl_naming.proofs.ranking.close.Given as goal

abbrev pub invariant-loop-path : goal.invariant-loop-path
invariant-loop-path l = record {
  fits : length l.ranks ≡ length l.initial.ranks;
  within : All (λ j. j < length l.initial.ranks) l.path.items;
}

abbrev pub decreases-loop-path : goal.decreases-loop-path
decreases-loop-path l = length l.path.items
