-- The run of the workload: it is compiled over files in memory, and the report is what is left of it.
use Rattle.std.specs.Prelude.{◌≡◌, ◌⊎◌, ℕ, Ok}
use Rattle.acl_job.specs.Job.{Plan, report_of}
use Rattle.acl_run.specs.Lines.{outside_line}
use Rattle.acl_run.specs.Telling.{Reports}
use Rattle.acl_run.specs.Worlds.{Stream, StreamCountsGrow, World}
use Rattle.acl_run.specs.declared.endings.Ended.{Ended}
use Rattle.acl_run.specs.declared.endings.Ended.TheVariants as ended
use Rattle.acl_run.specs.declared.endings.Which.TheVariants as which
use Rattle.aclgen_core.specs.WorkloadPlans.{PlansWorkload}
use Rattle.aclgen_core.specs.FaultLines.{program_name}

-- The workload has a plan (`WorkloadsHaveNoFault`), and its report is on standard output, or a front of it where
-- standard output failed or memory was wanted.
abbrev pub WorkloadTells : ℕ → Stream → Stream → Stream → Stream → Ended → Type 0
WorkloadTells n o o' e e' result =
    (plan : Plan) × PlansWorkload n (Ok plan) × Reports (outside_line program_name which.Out) (report_of plan) o o' e e' result

-- Or memory was wanted before there was anything to tell.
pub record RunsWorkload (n : ℕ) (o o' e e' : Stream) (result : Ended) : Type 0 where
  pub out_counts : StreamCountsGrow o o'
  pub err_counts : StreamCountsGrow e e'
  pub tells : WorkloadTells n o o' e e' result
      ⊎ ((result ≡ ended.Memory) × ((o' ≡ o) × (e' ≡ e)))

-- The run of the program on the words that ask for the workload: files and clock are as they were.
pub record EndsWorkload (n : ℕ) (old new : World) (result : Ended) : Type 0 where
  pub same_disk : new.disk ≡ old.disk
  pub same_clock : new.clock ≡ old.clock
  pub runs : RunsWorkload n old.out new.out old.err new.err result
