use Rattle.std.proofs.Common.{◌≡◌, true, take}
use Rattle.std.specs.List.{list_all}
use Rattle.acl_words.specs.ReadingSteps.{is_inner}
use Rattle.acl_words.proofs.inner_runs.short_inner_count.Given as goal

abbrev pub invariant-loop-i : goal.invariant-loop-i
invariant-loop-i l = list_all is_inner (take l.i l.text) ≡ true
