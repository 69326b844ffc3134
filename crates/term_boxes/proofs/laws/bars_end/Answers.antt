use Rattle.term_boxes.proofs.EndLaws.{bars-end}
use Rattle.term_boxes.proofs.laws.bars_end.Goals as goal

pub returns : goal.returns
returns c = bars-end
