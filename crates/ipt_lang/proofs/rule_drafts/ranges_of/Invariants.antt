use Rattle.std.proofs.Common.{◌≡◌, ◌++◌, length}
use Rattle.ipt_lang.specs.ReadingSteps.{ranges_in}
use Rattle.ipt_lang.proofs.rule_drafts.ranges_of.Given as goal

abbrev pub invariant-loop-part : goal.invariant-loop-part
invariant-loop-part l = l.ranges ++ ranges_in l.rest ≡ ranges_in l.fn.word

abbrev pub decreases-loop-part : goal.decreases-loop-part
decreases-loop-part l = length l.rest
