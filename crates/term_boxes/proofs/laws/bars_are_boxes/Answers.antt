use Rattle.term_boxes.proofs.SideSets.{bars-are}
use Rattle.term_boxes.proofs.laws.bars_are_boxes.Goals as goal

pub returns : goal.returns
returns c = bars-are
