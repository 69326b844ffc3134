use Rattle.term_boxes.proofs.CoordinateLaws.{fit}
use Rattle.term_boxes.proofs.laws.numbers_fit.Goals as goal

pub returns : goal.returns
returns c = fit
