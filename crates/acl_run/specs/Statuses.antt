-- The exit status of each ending.
use Rattle.std.specs.Prelude.{ℕ}
use Rattle.acl_run.specs.declared.endings.Ended.{Ended}
use Rattle.acl_run.specs.declared.endings.Ended.TheVariants.{Done, Usage, Rejected, Outside, Memory}

abbrev pub status : Ended → ℕ
status Done = 0
status (Rejected fault) = 1
status Usage = 2
status (Outside which) = 3
status Memory = 4
