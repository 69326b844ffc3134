use Rattle.std.proofs.Common.{◌≡◌, length}
use Rattle.acl_policy.specs.JudgingSteps.{rest_of}
use Rattle.acl_policy.specs.Policies.{last_place}
use Rattle.acl_policy.specs.Slips.{start_place}
use Rattle.acl_policy.proofs.policy_parsing.judge_all.Given as goal

abbrev pub invariant-loop-word : goal.invariant-loop-word
invariant-loop-word l = record {
  words : rest_of l.judge l.words ≡ rest_of l.initial.judge l.initial.words;
  place : last_place l.last l.words ≡ last_place start_place l.initial.words;
}

abbrev pub decreases-loop-word : goal.decreases-loop-word
decreases-loop-word l = length l.words
