use Rattle.std.proofs.Common.{◌≡◌, true, take}
use Rattle.std.specs.List.{list_all}
use Rattle.acl_naming.specs.LineSteps.{is_plain}
use Rattle.acl_naming.proofs.byte_runs.short_plain_front.Given as goal

abbrev pub invariant-loop-i : goal.invariant-loop-i
invariant-loop-i l = list_all is_plain (take l.i l.text) ≡ true
