use Rattle.std.proofs.Common.{◌≡◌, ◌+◌, ◌≤◌, min, length}
use Rattle.acl_text.specs.Output.{COUNT_END}
use Rattle.acl_sets.specs.ComputableLeastLists.{halved_space}
use Rattle.acl_sets.proofs.least.count_of.Given as goal

abbrev pub invariant-loop-prefix : goal.invariant-loop-prefix
invariant-loop-prefix l = record {
  fits : l.count ≤ COUNT_END;
  counted : min (l.count + length l._prefix-iterator) COUNT_END
      ≡ min (length (halved_space l.fn.family l.fn.ranges)) COUNT_END;
}
