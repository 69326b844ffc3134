use Rattle.std.proofs.Common.{length}
use Rattle.acl_dead.proofs.spaces.+grid_size.Given as goal

abbrev pub decreases-grid_size : goal.decreases-grid_size
decreases-grid_size l = length l.axes.now
