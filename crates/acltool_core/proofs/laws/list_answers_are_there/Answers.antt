use Rattle.acl_filters.specs.FilterRequests.{requests_of}
use Rattle.acl_run.proofs.PolicyAnswersLaws.{policy-answer-there}
use Rattle.acltool_core.specs.ListPlans.{lists_slip, plan_of}
use Rattle.acltool_core.proofs.laws.list_answers_are_there.Goals as goal

pub returns : goal.returns
returns c = λ inputs first today files.
    policy-answer-there inputs.definitions inputs.policy (λ l. lists_slip first today (requests_of l)) (plan_of first today) files
