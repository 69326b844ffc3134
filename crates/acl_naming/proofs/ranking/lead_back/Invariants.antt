use Rattle.std.proofs.Common.{◌≡◌, ℕ, ◌<◌, true}
use Rattle.acl_naming.specs.GraphSteps.{graph_of}
use Rattle.acl_naming.specs.MarkSteps.{leads}
use Rattle.acl_naming.proofs.ranking.lead_back.Given as goal

abbrev pub invariant-loop-i : goal.invariant-loop-i
invariant-loop-i l = (k : ℕ) → k < l.i → (j : ℕ) → leads (graph_of l.table) k j ≡ true → j < k
