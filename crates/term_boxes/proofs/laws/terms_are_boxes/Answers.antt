use Rattle.term_boxes.proofs.TermLaws.{are-boxes}
use Rattle.term_boxes.proofs.laws.terms_are_boxes.Goals as goal

pub returns : goal.returns
returns c = are-boxes
