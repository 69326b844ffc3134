use Rattle.acltool_core.proofs.OneAnswers.{one-dead}
use Rattle.acltool_core.proofs.laws.dead_answers_are_one.Goals as goal

pub returns : goal.returns
returns c = one-dead c.answers_are_one.ensures
