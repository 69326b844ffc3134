use Rattle.std.proofs.Common.{◌≡◌, drop}
use Rattle.acl_naming.specs.Checking.{first_undefined}
use Rattle.acl_naming.proofs.checking.first_undefined.Given as goal

abbrev pub invariant-loop-i : goal.invariant-loop-i
invariant-loop-i l = first_undefined l.linked (drop l.i l.linked) ≡ first_undefined l.linked l.linked
