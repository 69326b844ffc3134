use Rattle.acl_options.specs.CodeViews.{inputs_view}
use Rattle.aclcheck_core.proofs.MadeAnswers.{policy-made}
use Rattle.aclcheck_core.proofs.policies.answer_policy.Goals as goal

pub returns-clause-makes : goal.returns-clause-makes
returns-clause-makes g c =
    policy-made (inputs_view c.args.inputs.now) c.args.packet.now c.args.today _ c.in_ok-loaded.loaded c.in_ok-policy_lines.field-0 c.requires c.in_ok-loaded.ensures.loads
    c.in_ok-loaded.ensures.terms c.in_ok-policy_lines.ensures
