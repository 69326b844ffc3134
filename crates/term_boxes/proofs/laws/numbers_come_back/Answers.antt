use Rattle.term_boxes.proofs.CoordinateLaws.{come-back}
use Rattle.term_boxes.proofs.laws.numbers_come_back.Goals as goal

pub returns : goal.returns
returns c = come-back
