use Rattle.acl_filters.specs.FilterRequests.{requests_of}
use Rattle.acl_run.proofs.PolicyAnswersLaws.{policy-answer-there}
use Rattle.acltool_core.specs.RestorePlans.{plan_of, restores_slip}
use Rattle.acltool_core.proofs.laws.restored_answers_are_there.Goals as goal

pub returns : goal.returns
returns c = λ inputs family today files.
    policy-answer-there inputs.definitions inputs.policy (λ l. restores_slip family today (requests_of l)) (plan_of family today) files
