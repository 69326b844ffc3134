use Rattle.std.proofs.Common.{◌≡◌, take}
use Rattle.acl_platform.proofs.same_rules.are_same.Given as goal

abbrev pub invariant-loop-i : goal.invariant-loop-i
invariant-loop-i l = take l.i l.rules ≡ take l.i l.others
