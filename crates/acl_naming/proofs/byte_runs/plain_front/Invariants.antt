use Rattle.std.proofs.Common.{◌≡◌, ◌-◌, ◌≤◌, true, length, take}
use Rattle.std.specs.List.{list_all}
use Rattle.acl_naming.specs.LineSteps.{is_plain}
use Rattle.acl_naming.proofs.byte_runs.plain_front.Given as goal

abbrev pub invariant-loop-from : goal.invariant-loop-from
invariant-loop-from l = record {
  within : l.from ≤ length l.text;
  plain : list_all is_plain (take l.from l.text) ≡ true;
}

abbrev pub decreases-loop-from : goal.decreases-loop-from
decreases-loop-from l = length l.text - l.from
