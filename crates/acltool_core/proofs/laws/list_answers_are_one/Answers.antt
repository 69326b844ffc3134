use Rattle.acl_filters.specs.FilterRequests.{requests_of}
use Rattle.acl_run.proofs.PolicyAnswersLaws.{one-policy-answer}
use Rattle.acltool_core.specs.ListPlans.{lists_slip, plan_of}
use Rattle.acltool_core.proofs.laws.list_answers_are_one.Goals as goal

pub returns : goal.returns
returns c = λ inputs first today files a b p q.
    one-policy-answer inputs.definitions inputs.policy (λ l. lists_slip first today (requests_of l)) (plan_of first today) files a b p q
