use Rattle.std.proofs.Common.{◌≡◌, drop}
use Rattle.ipt_lang.specs.ValiditySteps.{has_room}
use Rattle.ipt_lang.proofs.validity.has_room.Given as goal

abbrev pub invariant-loop-ports : goal.invariant-loop-ports
invariant-loop-ports l = has_room l.left (drop l.ports-index l.ranges) ≡ has_room l.initial.left l.ranges
