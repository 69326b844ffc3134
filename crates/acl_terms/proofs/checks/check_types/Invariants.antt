use Rattle.std.proofs.Common.{◌≡◌}
use Rattle.acl_text.specs.Refusals.{first_in}
use Rattle.acl_terms.specs.Slips.{type_slip}
use Rattle.acl_terms.proofs.checks.check_types.Given as goal

abbrev pub invariant-loop-word : goal.invariant-loop-word
invariant-loop-word l = first_in (type_slip l.family) l.word-iterator ≡ first_in (type_slip l.family) l.words
