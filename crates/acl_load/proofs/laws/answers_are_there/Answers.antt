use Rattle.acl_load.proofs.AnswersThere.{answer-there}
use Rattle.acl_load.proofs.laws.answers_are_there.Goals as goal

pub returns : goal.returns
returns c = answer-there
