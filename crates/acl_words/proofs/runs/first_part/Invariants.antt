use Rattle.std.proofs.Common.{◌≡◌, [], take, drop}
use Rattle.acl_words.specs.ReadingSteps.{first_part}
use Rattle.acl_words.proofs.runs.first_part.Given as goal

abbrev pub invariant-loop-i : goal.invariant-loop-i
invariant-loop-i l = first_part (take l.i l.text) (drop l.i l.text) ≡ first_part [] l.text
