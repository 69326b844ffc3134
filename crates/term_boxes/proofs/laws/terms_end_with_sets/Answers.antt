use Rattle.term_boxes.proofs.EndLaws.{terms-end}
use Rattle.term_boxes.proofs.laws.terms_end_with_sets.Goals as goal

pub returns : goal.returns
returns c = terms-end
