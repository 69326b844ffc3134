use Rattle.std.proofs.Common.{◌≡◌, ◌++◌}
use Rattle.acl_dead.specs.CutSteps.{held_cuts}
use Rattle.acl_dead.proofs.cuts.push_cuts.Given as goal

abbrev pub invariant-loop-range : goal.invariant-loop-range
invariant-loop-range l =
    l.out.items ++ held_cuts l.rest l.range-iterator ≡ l.fn.out.items ++ held_cuts l.fn.own l.fn.ranges
