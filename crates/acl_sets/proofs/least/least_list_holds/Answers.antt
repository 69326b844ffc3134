use Rattle.acl_sets.proofs.LeastListLaws.{least_list-holds}
use Rattle.acl_sets.proofs.least.least_list_holds.Goals as goal

pub returns : goal.returns
returns c = least_list-holds
