-- The job of the workload: its texts are compiled as files in memory. It has a plan, and so no fault: a law.
use Rattle.std.specs.Prelude.{◌≡◌, ℕ, ◌<◌, ◌≤◌, pos, false, List, [], ◌∷◌, map, codes, Result, Ok, None}
use Rattle.acl_text.specs.declared.faults.Fault.{Fault}
use Rattle.acl_host.specs.declared.days.Day.{Day}
use Rattle.acl_options.specs.CommandLines.{Options}
use Rattle.acl_filters.specs.PlatformFiles.{count_of}
use Rattle.acl_filters.specs.FilterRequests.{filter_for}
use Rattle.acl_job.specs.Job.{Plan, Plans}
use Rattle.acl_job.specs.Works.{IsReady}
use Rattle.acl_job.specs.declared.planning.Work.{Work}
use Rattle.aclgen_core.specs.LoadedWorkloads.{workload_counts}
use Rattle.aclgen_core.specs.WorkloadFiles.{workload_files, workload_folder, workload_path}

-- What is asked for: no words are read. Its files are `workload_files`.
abbrev pub workload_options : Options
workload_options = record {
  policy = workload_path;
  definitions = workload_folder;
  output = codes "out";
  date = None;
  exp_info = 2;
  shade_check = false;
}

-- The job of the workload, for 2026-01-01, in days since 1970-01-01.
abbrev pub PlansWorkload : ℕ → Result Plan Fault → Type 0
PlansWorkload n answer =
    (today : Day) → today.number ≡ pos 20454 → Plans workload_options today (workload_files n) answer

-- What is to be written of the workload.
abbrev pub MakesWorkload : ℕ → Work → Type 0
MakesWorkload n work = (plan : Plan) × PlansWorkload n (Ok plan) × IsReady plan work

-- ---- it has a plan

-- How many entries the filters of each file have.
abbrev pub entries_of : Plan → List (List ℕ)
entries_of plan = map (λ f. map (λ r. count_of (filter_for plan.today r)) f.requests) plan.files

-- The workload of 1 to 1,024 terms has a plan, and so no fault. It has a file for each platform with one filter, in the order
-- of `workload_counts`.
abbrev pub WorkloadsHaveNoFault : Type 0
WorkloadsHaveNoFault = (n : ℕ) → 0 < n → n ≤ 1024
    → (plan : Plan) × PlansWorkload n (Ok plan) × (entries_of plan ≡ map (λ k. k ∷ []) (workload_counts n))
