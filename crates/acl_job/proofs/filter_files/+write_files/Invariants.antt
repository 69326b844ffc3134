use Rattle.std.proofs.Common.{length}
use Rattle.acl_job.proofs.filter_files.+write_files.Given as goal

abbrev pub decreases-write_files : goal.decreases-write_files
decreases-write_files g l = length l.files.now
