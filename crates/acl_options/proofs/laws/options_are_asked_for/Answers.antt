use Rattle.acl_options.proofs.AskingLaws.{answered, asked}
use Rattle.acl_options.proofs.laws.options_are_asked_for.Goals as goal

pub returns : goal.returns
returns c = λ words o. (asked words o, answered words o)
