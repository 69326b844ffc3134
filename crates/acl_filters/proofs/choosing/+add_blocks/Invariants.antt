use Rattle.std.proofs.Common.{length}
use Rattle.acl_filters.proofs.choosing.+add_blocks.Given as goal

abbrev pub decreases-add_blocks : goal.decreases-add_blocks
decreases-add_blocks g l = length l.blocks.now
