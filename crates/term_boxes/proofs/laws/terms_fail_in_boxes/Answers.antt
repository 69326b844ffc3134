use Rattle.term_boxes.proofs.TermLaws.{fail-in-boxes}
use Rattle.term_boxes.proofs.laws.terms_fail_in_boxes.Goals as goal

pub returns : goal.returns
returns c = fail-in-boxes
