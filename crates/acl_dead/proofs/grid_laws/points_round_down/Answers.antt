use Rattle.acl_dead.proofs.RoundingLaws.{rounding}
use Rattle.acl_dead.proofs.grid_laws.points_round_down.Goals as goal

pub returns : goal.returns
returns c = rounding
