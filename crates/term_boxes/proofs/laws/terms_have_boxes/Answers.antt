use Rattle.term_boxes.proofs.TermSets.{have-boxes}
use Rattle.term_boxes.proofs.laws.terms_have_boxes.Goals as goal

pub returns : goal.returns
returns c = have-boxes
