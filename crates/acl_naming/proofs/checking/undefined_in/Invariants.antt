use Rattle.std.proofs.Common.{◌≡◌, drop}
use Rattle.acl_naming.specs.Checking.{undefined_in}
use Rattle.acl_naming.proofs.checking.undefined_in.Given as goal

abbrev pub invariant-loop-item : goal.invariant-loop-item
invariant-loop-item l = undefined_in l.table (drop l.item-index l.items) ≡ undefined_in l.table l.items
