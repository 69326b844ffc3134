use Rattle.std.proofs.Common.{◌≡◌, length, min, take}
use Rattle.acl_text.specs.Output.{COUNT_END}
use Rattle.acl_platform.specs.Choices.{numbers_of}
use Rattle.acl_platform.proofs.numbers.count_numbers.Given as goal

abbrev pub invariant-loop-range : goal.invariant-loop-range
invariant-loop-range l = l.count ≡ min (length (numbers_of (take l.range-index l.ranges))) COUNT_END
