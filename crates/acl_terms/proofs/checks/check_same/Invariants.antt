use Rattle.std.proofs.Common.{◌≡◌}
use Rattle.acl_text.specs.Refusals.{first_in}
use Rattle.acl_terms.specs.Slips.{same_slip}
use Rattle.acl_terms.proofs.checks.check_same.Given as goal

abbrev pub invariant-loop-word : goal.invariant-loop-word
invariant-loop-word l = first_in (same_slip l.first) l.word-iterator ≡ first_in (same_slip l.first) l.fn.words
