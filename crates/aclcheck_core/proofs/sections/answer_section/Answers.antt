use Rattle.acl_options.specs.CodeViews.{section_view}
use Rattle.aclcheck_core.proofs.MadeAnswers.{section-fault, section-made}
use Rattle.aclcheck_core.proofs.sections.answer_section.Goals as goal

pub returns-in_err-outcome-clause-makes : goal.returns-in_err-outcome-clause-makes
returns-in_err-outcome-clause-makes g c =
    section-fault (section_view c.args.at.now) c.args.packet.now _ c.in_ok-text.text c.in_err-outcome.field-0.0 c.from_residual-in_err-outcome.result
    c.in_ok-text.ensures.gives (rw c.as_slice.ensures at c.in_err-outcome.ensures) c.from_residual-in_err-outcome.ensures.1

pub returns-clause-makes : goal.returns-clause-makes
returns-clause-makes g c =
    section-made (section_view c.args.at.now) c.args.packet.now _ c.in_ok-text.text c.in_ok-outcome.outcome c.in_ok-line_on.field-0 c.in_ok-text.ensures.gives
    (rw c.as_slice.ensures at c.in_ok-outcome.ensures) c.in_ok-line_on.ensures
