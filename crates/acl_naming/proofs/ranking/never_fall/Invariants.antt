use Rattle.std.proofs.Common.{◌≡◌, ℕ, ◌<◌, ◌≤◌, true}
use Rattle.acl_naming.specs.GraphSteps.{graph_of}
use Rattle.acl_naming.specs.MarkSteps.{leads}
use Rattle.acl_naming.specs.RankSteps.{rank_at}
use Rattle.acl_naming.proofs.ranking.never_fall.Given as goal

abbrev pub invariant-loop-i : goal.invariant-loop-i
invariant-loop-i l = (k : ℕ) → k < l.i → (j : ℕ) → leads (graph_of l.table) k j ≡ true → rank_at l.ranks k ≤ rank_at l.ranks j
