use Rattle.acl_sets.proofs.LeastListLaws.{one_least_list}
use Rattle.acl_sets.proofs.least.one_least_list.Goals as goal

pub returns : goal.returns
returns c = one_least_list
