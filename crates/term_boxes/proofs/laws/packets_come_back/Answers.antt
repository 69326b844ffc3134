use Rattle.term_boxes.proofs.CoordinateLaws.{packet-back}
use Rattle.term_boxes.proofs.laws.packets_come_back.Goals as goal

pub returns : goal.returns
returns c = packet-back
