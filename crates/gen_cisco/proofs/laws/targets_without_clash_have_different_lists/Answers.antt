use Rattle.gen_cisco.proofs.ListNames.{all-differ}
use Rattle.gen_cisco.proofs.laws.targets_without_clash_have_different_lists.Goals as goal

pub returns : goal.returns
returns c = all-differ
