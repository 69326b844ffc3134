use Rattle.std.proofs.Common.{length}
use Rattle.acl_dead.proofs.searches.+make_levels.Given as goal

abbrev pub decreases-make_levels : goal.decreases-make_levels
decreases-make_levels l = length l.axes.now
