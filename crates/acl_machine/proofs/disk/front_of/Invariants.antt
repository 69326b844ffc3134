use Rattle.std.proofs.Common.{◌≤◌, length}
use Rattle.acl_machine.proofs.disk.front_of.Given as goal

abbrev pub invariant-loop : goal.invariant-loop
invariant-loop g l = length l.bytes ≤ l.most
