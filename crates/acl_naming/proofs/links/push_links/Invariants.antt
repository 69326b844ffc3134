use Rattle.std.proofs.Common.{◌≡◌, ◌++◌, drop}
use Rattle.acl_naming.specs.GraphSteps.{targets}
use Rattle.acl_naming.proofs.links.push_links.Given as goal

abbrev pub invariant-loop-item : goal.invariant-loop-item
invariant-loop-item l = l.places ++ targets l.table (drop l.item-index l.items) ≡ l.initial.places ++ targets l.table l.items
