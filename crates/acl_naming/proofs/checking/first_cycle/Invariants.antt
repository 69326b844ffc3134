use Rattle.acl_naming.specs.Checking.{NoCycleBefore}
use Rattle.acl_naming.proofs.checking.first_cycle.Given as goal

abbrev pub invariant-loop-i : goal.invariant-loop-i
invariant-loop-i l = NoCycleBefore l.table l.i
