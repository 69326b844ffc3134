use Rattle.acl_sets.proofs.LeastListLaws.{least_list-fewest}
use Rattle.acl_sets.proofs.least.least_list_is_fewest.Goals as goal

pub returns : goal.returns
returns c = least_list-fewest
