use Rattle.std.proofs.Common.{◌≡◌, ◌++◌, length}
use Rattle.junos_lang.specs.ReadingSteps.{ranges_in}
use Rattle.junos_lang.proofs.filters_drafts.ranges_of.Given as goal

abbrev pub invariant-loop-word : goal.invariant-loop-word
invariant-loop-word l = l.ranges ++ ranges_in l.rest ≡ ranges_in l.initial.rest

abbrev pub decreases-loop-word : goal.decreases-loop-word
decreases-loop-word l = length l.rest
