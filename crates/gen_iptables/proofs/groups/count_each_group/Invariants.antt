use Rattle.std.proofs.Common.{◌≡◌, ◌+◌, ◌-◌, ◌≤◌, length, min, drop}
use Rattle.acl_text.specs.Output.{COUNT_END}
use Rattle.gen_iptables.specs.Groups.{groups}
use Rattle.gen_iptables.proofs.groups.count_each_group.Given as goal

abbrev pub invariant-loop-from : goal.invariant-loop-from
invariant-loop-from l = record {
  within : l.from ≤ length l.set.ranges;
  fits : l.count ≤ COUNT_END;
  whole : min (l.count + length (groups (drop l.from l.set.ranges))) COUNT_END ≡ min (length (groups l.set.ranges)) COUNT_END;
}

abbrev pub decreases-loop-from : goal.decreases-loop-from
decreases-loop-from l = length l.set.ranges - l.from
