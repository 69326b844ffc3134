use Rattle.std.proofs.Common.{length}
use Rattle.acl_report.proofs.reports.+put_blocks.Given as goal

abbrev pub decreases-put_blocks : goal.decreases-put_blocks
decreases-put_blocks l = length l.targets.now
