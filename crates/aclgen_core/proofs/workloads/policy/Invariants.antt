use Rattle.std.proofs.Common.{◌≡◌, ◌++◌}
use Rattle.aclgen_core.specs.WorkloadTexts.{for_each, header_text, term_text}
use Rattle.aclgen_core.proofs.workloads.policy.Given as goal

abbrev pub invariant-loop-i : goal.invariant-loop-i
invariant-loop-i l = l.text ≡ header_text ++ for_each term_text l.i
