use Rattle.std.proofs.Common.{◌≡◌, drop}
use Rattle.acl_policy.specs.Policies.{behind_words}
use Rattle.acl_policy.proofs.judging.judge_words.Given as goal

abbrev pub invariant-loop-word : goal.invariant-loop-word
invariant-loop-word l = behind_words l.state (drop l.word-index l.words) ≡ behind_words l.initial.state l.words
