use Rattle.std.proofs.Common.{ℕ, List, ◌-◌, ◌^◌, ◌<◌, ◌≤◌}
use Rattle.acl_text.specs.Fronts.{GroupsGoOn}
use Rattle.acl_text.proofs.ipv6_fronts.groups_behind.Given as goal

abbrev pub invariant-loop-left : goal.invariant-loop-left
invariant-loop-left l = record {
  -- what goes on from here went on from the text
  go_on : (end : List ℕ) (left value : ℕ) → GroupsGoOn l.rest end l.left l.value left value → GroupsGoOn l.fn.text end l.fn.left l.fn.value left value;
  few : l.left ≤ 8;
  small : l.value < 65536 ^ (8 - l.left);
}

abbrev pub decreases-loop-left : goal.decreases-loop-left
decreases-loop-left l = l.left
