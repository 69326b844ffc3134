use Rattle.std.proofs.Common.{◌≡◌, drop}
use Rattle.acl_policy.specs.Targets.{no_choices, choices_from}
use Rattle.acl_policy.proofs.choices.read_choices.Given as goal

abbrev pub invariant-loop-word : goal.invariant-loop-word
invariant-loop-word l = choices_from l.kind l.choices (drop l.word-index l.words) ≡ choices_from l.kind no_choices l.words
