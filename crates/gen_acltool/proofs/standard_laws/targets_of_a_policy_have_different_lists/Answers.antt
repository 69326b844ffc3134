use Rattle.gen_acltool.proofs.ListNumbers.{lists_differ}
use Rattle.gen_acltool.proofs.standard_laws.targets_of_a_policy_have_different_lists.Goals as goal

pub returns : goal.returns
returns c = lists_differ
