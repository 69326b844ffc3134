use Rattle.std.proofs.Common.{◌-◌, length}
use Rattle.acltool_core.proofs.dead_telling.BlockLines.+put_terms.Given as goal

abbrev pub decreases-put_terms : goal.decreases-put_terms
decreases-put_terms l = length l.self.now.terms.now - l.place
