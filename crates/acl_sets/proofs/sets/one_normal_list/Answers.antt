use Rattle.acl_sets.proofs.RangeLaws.{one_list}
use Rattle.acl_sets.proofs.sets.one_normal_list.Goals as goal

pub returns : goal.returns
returns c = λ floor top rs ss n m h. one_list floor floor top rs ss n m h
