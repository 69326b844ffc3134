use Rattle.acl_load.proofs.OneAnswer.{one-answer}
use Rattle.acl_load.proofs.laws.answers_are_one.Goals as goal

pub returns : goal.returns
returns c = one-answer
