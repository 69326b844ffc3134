use Rattle.std.proofs.Common.{◌≡◌, drop}
use Rattle.acl_policy.specs.Terms.{with_comments}
use Rattle.acl_policy.proofs.term_drafts.add_comments.Given as goal

abbrev pub invariant-loop-value : goal.invariant-loop-value
invariant-loop-value l = with_comments l.draft (drop l.value-index l.values) ≡ with_comments l.initial.draft l.values
