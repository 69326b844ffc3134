use Rattle.std.proofs.Common.{◌∙◌, ◌++◌, ap}
use Rattle.aclgen_core.specs.WorkloadTexts.{header_text, term_text}
use Rattle.aclgen_core.proofs.CountedTexts.{one_more}
use Rattle.aclgen_core.proofs.workloads.policy.Goals as goal

pub loop-i-preserved : goal.loop-i-preserved
loop-i-preserved c =
    c.in_ok-push_term.ensures
    ∙ ap (λ t. t ++ term_text c.loop-i.i) c.loop-i.invariant
    ∙ one_more term_text header_text c.loop-i.i
