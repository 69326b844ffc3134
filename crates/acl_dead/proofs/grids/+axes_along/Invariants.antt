use Rattle.std.proofs.Common.{length}
use Rattle.acl_dead.proofs.grids.+axes_along.Given as goal

abbrev pub decreases-axes_along : goal.decreases-axes_along
decreases-axes_along l = length l.along.now
