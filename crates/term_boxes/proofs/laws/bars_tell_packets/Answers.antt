use Rattle.term_boxes.proofs.BarLaws.{bars-tell}
use Rattle.term_boxes.proofs.laws.bars_tell_packets.Goals as goal

pub returns : goal.returns
returns c = bars-tell
