-- The whole job: from the words, the day and the files to what is written, or to the first fault.
use Rattle.std.specs.Prelude.{◌≡◌, ℕ, List, [], ◌∷◌, ◌++◌, map, flat_map, Option, None, Some, Result, Ok, Err}
use Rattle.std.specs.Option.{option_or}
use Rattle.acl_text.specs.declared.faults.Fault.{Fault}
use Rattle.acl_text.specs.declared.faults.Slip.{Slip}
use Rattle.acl_text.specs.Refusals.{slip_fault}
use Rattle.acl_host.specs.declared.days.Day.{Day}
use Rattle.acl_host.specs.Files.{File}
use Rattle.acl_naming.specs.Definitions.{Naming}
use Rattle.acl_target.specs.declared.targets.Kind.{Kind}
use Rattle.acl_target.specs.declared.targets.Kind.TheVariants.{Cisco, Juniper, Iptables, Nftables}
use Rattle.acl_load.specs.declared.policy_loading.Loaded.{Loaded}
use Rattle.acl_load.specs.LoadedPolicies.{FirstFaultOr, LoadsPolicy}
use Rattle.acl_load.specs.ResolvedPolicies.{resolved_of}
use Rattle.acl_platform.specs.declared.filters.Filter.{Filter}
use Rattle.acl_filters.specs.PlatformFiles.{count_of, text_on}
use Rattle.acl_report.specs.Reports.{count_line, terms_report}
use Rattle.acl_options.specs.CommandLines.{Options}
use Rattle.acl_options.specs.ComputableOptions.{options_of}
use Rattle.acl_run.specs.Told.{or_day}
use Rattle.acl_job.specs.FilterPaths.{path_of}
use Rattle.acl_filters.specs.AskedFilters.{FilterRequest}
use Rattle.acl_job.specs.AskedFiles.{PlanFile}
use Rattle.acl_filters.specs.FilterRequests.{filter_for, loaded_slip, requests_of, requests_on}
use Rattle.acl_job.specs.Removals.{PlanBlock, blocks_of}
use Rattle.acl_job.specs.ShadedSlips.{asked_shaded}

-- What a run writes: its files, over the definitions, the day for which they are made and the blocks of the policy, and
-- what its report says of the policy's terms.
pub record Plan : Type 0 where
  pub naming : Naming
  pub today : Day
  pub blocks : List PlanBlock
  pub files : List PlanFile
  pub term_lines : List ℕ

-- The platforms, in the order in which their files are written.
abbrev pub platforms : List Kind
platforms = Cisco ∷ Juniper ∷ Iptables ∷ Nftables ∷ []

-- A platform has one file where some target names it, with its filters in the order of the targets.
abbrev pub file_with : Kind → List ℕ → List FilterRequest → List PlanFile
file_with kind path [] = []
file_with kind path (r ∷ rs) = record { kind = kind; path = path; requests = r ∷ rs } ∷ []

abbrev pub files_on : Options → List FilterRequest → Kind → List PlanFile
files_on o rs kind = file_with kind (path_of kind o.output o.policy) (requests_on kind rs)

abbrev pub plan_of : Options → Day → Loaded → Plan
plan_of o today loaded = record {
  naming = loaded.definitions;
  today = today;
  blocks = blocks_of loaded;
  files = flat_map (files_on o (requests_of loaded)) platforms;
  term_lines = terms_report today o.exp_info (resolved_of loaded);
}

-- A slip is told with the label of its file.
abbrev pub or_slip : List (List ℕ) → Option Slip → Plan → Result Plan Fault
or_slip labels (Some slip) plan = Err (slip_fault labels slip)
or_slip labels None plan = Ok plan

-- The first slip of a filter, else that of the first shaded term, where it is asked for.
abbrev pub job_slip : Options → Day → Loaded → Option Slip
job_slip o today loaded =
    option_or (loaded_slip today loaded) (asked_shaded o.shade_check today loaded)

abbrev pub planned : Options → Day → Loaded → Result Plan Fault
planned o today loaded =
    or_slip loaded.sources.labels (job_slip o today loaded) (plan_of o today loaded)

-- What is to be written, or the first fault: the naming files and the policy are loaded, and then each of its filters is
-- judged and, where it is asked for, each term, all of them before anything is written.
abbrev pub Plans : Options → Day → List File → Result Plan Fault → Type 0
Plans o today files answer = (loaded : Result Loaded Fault) × LoadsPolicy o.definitions o.policy files loaded
    × FirstFaultOr (λ l a. a ≡ planned o today l) loaded answer

-- The job of the words: none where they are no command line, else what is to be written or the first fault.
abbrev pub IsJobOf : Option Options → Day → List File → Option (Result Plan Fault) → Type 0
IsJobOf None day files None = Unit {0}
IsJobOf None day files (Some answer) = ⊥
IsJobOf (Some o) day files None = ⊥
IsJobOf (Some o) day files (Some answer) = Plans o (or_day o.date day) files answer

-- `day` is the clock's.
abbrev pub IsJob : List (List ℕ) → Day → List File → Option (Result Plan Fault) → Type 0
IsJob words day files job = IsJobOf (options_of words) day files job

-- ---- what is written

abbrev pub filters_of : Day → PlanFile → List Filter
filters_of today f = map (filter_for today) f.requests

abbrev pub file_of : Day → PlanFile → File
file_of today f = (f.path, text_on f.kind (filters_of today f))

abbrev pub texts_of : Plan → List File
texts_of plan = map (file_of plan.today) plan.files

abbrev pub report_line : List ℕ → Day → FilterRequest → List ℕ
report_line path today r = count_line path r.target (count_of (filter_for today r))

abbrev pub file_report : Day → PlanFile → List ℕ
file_report today f = flat_map (report_line f.path today) f.requests

-- The report on standard output: the lines on the terms, and then a line for each filter of each file, in order.
abbrev pub report_of : Plan → List ℕ
report_of plan = plan.term_lines ++ flat_map (file_report plan.today) plan.files
