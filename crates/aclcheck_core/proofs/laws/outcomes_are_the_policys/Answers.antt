use Rattle.aclcheck_core.proofs.DeciderLaws.{outcome-is-the-policys}
use Rattle.aclcheck_core.proofs.laws.outcomes_are_the_policys.Goals as goal

pub returns : goal.returns
returns c = outcome-is-the-policys
