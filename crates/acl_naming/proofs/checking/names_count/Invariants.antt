use Rattle.std.proofs.Common.{◌≡◌, ◌≤◌, ◌+◌, drop}
use Rattle.acl_naming.specs.GraphSteps.{names_count}
use Rattle.acl_naming.proofs.checking.names_count.Given as goal

abbrev pub invariant-loop-item : goal.invariant-loop-item
invariant-loop-item l = record {
  few : l.count ≤ l.item-index;
  goes : l.count + names_count (drop l.item-index l.items) ≡ names_count l.items;
}
