use Rattle.std.proofs.Common.{flat_map, take}
use Rattle.acl_text.specs.Puts.{Puts}
use Rattle.acl_text.proofs.Putting.{done}
use Rattle.acl_platform.specs.Choices.{numbers_of}
use Rattle.acl_platform.proofs.numbers.put_numbers.Given as goal

abbrev pub invariant-loop-range : goal.invariant-loop-range
invariant-loop-range g l =
    Puts g.O.Out l.initial.out l.out
    (flat_map (g.F.NumberForm.number_text l.form) (numbers_of (take l.range-index l.ranges))) done
