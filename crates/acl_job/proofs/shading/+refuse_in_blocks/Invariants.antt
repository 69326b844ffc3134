use Rattle.std.proofs.Common.{length}
use Rattle.acl_job.proofs.shading.+refuse_in_blocks.Given as goal

abbrev pub decreases-refuse_in_blocks : goal.decreases-refuse_in_blocks
decreases-refuse_in_blocks l = length l.targets.now
