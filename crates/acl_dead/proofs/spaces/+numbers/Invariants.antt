use Rattle.std.proofs.Common.{length}
use Rattle.acl_dead.proofs.spaces.+numbers.Given as goal

abbrev pub decreases-numbers : goal.decreases-numbers
decreases-numbers l = length l.axes.now
