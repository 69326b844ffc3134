use Rattle.std.proofs.Common.{◌≡◌, ◌++◌, map, take}
use Rattle.acl_policy.specs.Values.{word_of}
use Rattle.acl_policy.proofs.values.push_all.Given as goal

abbrev pub invariant-loop-value : goal.invariant-loop-value
invariant-loop-value l = l.words ≡ l.initial.words ++ map word_of (take l.value-index l.values)
