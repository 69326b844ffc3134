use Rattle.std.proofs.Common.{◌≡◌, true, take}
use Rattle.std.specs.List.{list_all}
use Rattle.acl_naming.specs.LineSteps.{is_ink}
use Rattle.acl_naming.proofs.byte_runs.short_ink_front.Given as goal

abbrev pub invariant-loop-i : goal.invariant-loop-i
invariant-loop-i l = list_all is_ink (take l.i l.text) ≡ true
