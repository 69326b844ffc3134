use Rattle.term_boxes.proofs.EndLaws.{failures-end}
use Rattle.term_boxes.proofs.laws.failures_end_with_sets.Goals as goal

pub returns : goal.returns
returns c = failures-end
