use Rattle.std.proofs.Common.{length}
use Rattle.acl_filters.proofs.choosing.+add_filters.Given as goal

abbrev pub decreases-add_filters : goal.decreases-add_filters
decreases-add_filters g l = length l.targets.now
