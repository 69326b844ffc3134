-- What the program does: the words may ask for the workload, and else for the job that `Keeps` tells of.
use Rattle.std.specs.Prelude.{ℕ, List, IfNone, IfSome}
use Rattle.acl_options.specs.WorkloadWords.{workload_of}
use Rattle.aclgen_core.specs.Endings.{Keeps}
use Rattle.aclgen_core.specs.WorkloadRuns.{EndsWorkload}
use Rattle.acl_run.specs.Worlds.{World}
use Rattle.acl_run.specs.declared.endings.Ended.{Ended}

abbrev pub Runs : List (List ℕ) → World → World → Ended → Type 0
Runs words old new result = IfSome (workload_of words) (λ terms. EndsWorkload terms old new result)
    × IfNone (workload_of words) (Keeps words old new result)
