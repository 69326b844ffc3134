use Rattle.std.proofs.Common.{◌≡◌, ◌+◌, ◌-◌, length, drop}
use Rattle.acl_sets.specs.Groups.{group_length}
use Rattle.acl_sets.proofs.groups.end_from.Given as goal

abbrev pub invariant-loop-end : goal.invariant-loop-end
invariant-loop-end l =
    l.end + group_length l.left (drop l.end l.ranges) ≡ l.from + group_length l.most (drop l.from l.ranges)

abbrev pub decreases-loop-end : goal.decreases-loop-end
decreases-loop-end l = length l.ranges - l.end
