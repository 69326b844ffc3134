use Rattle.std.proofs.Common.{◌≡◌, ◌-◌, ◌≤◌, List, ◌++◌, length, drop, flat_map}
use Rattle.acl_text.specs.Puts.{Puts}
use Rattle.acl_text.proofs.Putting.{done}
use Rattle.acl_rows.specs.Rows.{text_of_rows}
use Rattle.acl_sets.specs.declared.sets.Range.{Range}
use Rattle.gen_iptables.specs.Groups.{groups}
use Rattle.gen_iptables.proofs.groups.put_groups.Given as goal

-- the groups that were put, and what is left
abbrev pub invariant-loop-from : goal.invariant-loop-from
invariant-loop-from g l =
    (l.from ≤ length l.set.ranges) × ((front : List (List Range)) × ((front ++ groups (drop l.from l.set.ranges) ≡ groups l.set.ranges)
    × Puts g.O.Out l.initial.out l.out (text_of_rows (flat_map (g.F.GroupForm.group_rows l.form) front)) done))

abbrev pub decreases-loop-from : goal.decreases-loop-from
decreases-loop-from g l = length l.set.ranges - l.from
