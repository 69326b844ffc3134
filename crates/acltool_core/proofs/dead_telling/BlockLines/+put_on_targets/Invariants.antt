use Rattle.std.proofs.Common.{length}
use Rattle.acltool_core.proofs.dead_telling.BlockLines.+put_on_targets.Given as goal

abbrev pub decreases-put_on_targets : goal.decreases-put_on_targets
decreases-put_on_targets l = length l.targets.now
