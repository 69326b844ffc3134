use Rattle.acl_options.proofs.AskingLaws.{one_list}
use Rattle.acl_options.proofs.laws.options_are_one.Goals as goal

pub returns : goal.returns
returns c = one_list
