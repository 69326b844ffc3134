use Rattle.policy_grammar.proofs.FittingPolicies.{just_fitting_meant}
use Rattle.policy_grammar.proofs.laws.just_fitting_policies_are_meant.Goals as goal

pub returns : goal.returns
returns c = just_fitting_meant
