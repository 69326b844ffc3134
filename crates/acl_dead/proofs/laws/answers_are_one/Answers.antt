use Rattle.acl_dead.proofs.OneAnswer.{answers-one}
use Rattle.acl_dead.proofs.laws.answers_are_one.Goals as goal

pub returns : goal.returns
returns c = answers-one
