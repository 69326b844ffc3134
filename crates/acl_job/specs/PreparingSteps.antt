-- What the private steps that make a policy's filters give.
use Rattle.std.specs.Prelude.{◌≡◌, ℕ, true, List, [], ◌∷◌, ◌++◌, map, flat_map, None, Some, Result, Ok, Err}
use Rattle.std.specs.List.{AllByRecursion}
use Rattle.std.specs.String.{string_bytes}
use Rattle.acl_text.specs.declared.faults.Refusal.{Refusal}
use Rattle.acl_text.specs.declared.faults.Refusal.TheVariants as refusals
use Rattle.acl_text.specs.declared.faults.Rejection.{Rejection}
use Rattle.acl_text.specs.declared.faults.Rejection.TheVariants as rejections
use Rattle.acl_host.specs.declared.days.Day.{Day}
use Rattle.acl_target.specs.declared.targets.Kind.{Kind}
use Rattle.acl_target.specs.declared.targets.Kind.TheVariants.{Cisco, Juniper, Iptables, Nftables}
use Rattle.acl_target.specs.declared.targets.Target.{Target}
use Rattle.acl_platform.specs.declared.filters.Filter.{Filter}
use Rattle.acl_load.specs.declared.policy_loading.Loaded.{Loaded}
use Rattle.acl_options.specs.CommandLines.{Options}
use Rattle.acl_report.specs.Reports.{count_line}
use Rattle.acl_job.specs.FilterPaths.{path_of}
use Rattle.acl_filters.specs.AskedFilters.{FilterRequest}
use Rattle.acl_filters.specs.CheckedFilters.{IsTakenFor}
use Rattle.acl_filters.specs.FilterRequests.{filter_for, loaded_slip, requests_of, requests_on, requests_slip}
use Rattle.acl_job.specs.Job.{job_slip, plan_of, planned, platforms, report_line}
use Rattle.acl_job.specs.ShadedSlips.{asked_shaded}
use Rattle.acl_job.specs.Works.{AreWritable, IsReady}
use Rattle.acl_job.specs.declared.filter_files.FilterFile.{FilterFile}
use Rattle.acl_job.specs.declared.planning.Work.{Work}
use Rattle.acl_job.specs.declared.preparing.FileDraft.{FileDraft}
use Rattle.acl_job.specs.declared.preparing.FileDrafts.{FileDrafts}

-- ---- the files in the making

abbrev pub draft_on : Kind → FileDrafts → FileDraft
draft_on Cisco drafts = drafts.cisco
draft_on Juniper drafts = drafts.juniper
draft_on Iptables drafts = drafts.iptables
draft_on Nftables drafts = drafts.nftables

abbrev pub with_draft : Kind → FileDrafts → FileDraft → FileDrafts
with_draft Cisco drafts draft = record drafts { cisco = draft }
with_draft Juniper drafts draft = record drafts { juniper = draft }
with_draft Iptables drafts draft = record drafts { iptables = draft }
with_draft Nftables drafts draft = record drafts { nftables = draft }

-- More can be put into each report.
abbrev pub AreOpen : FileDrafts → Type 0
AreOpen drafts = (kind : Kind) → (draft_on kind drafts).report.is_open ≡ true

-- One filter and its line of the report stand behind those that were there.
pub record AddsOne (target : Target) (f : Filter) (entries : ℕ) (old new : FileDraft) : Type 0 where
  pub path_stays : new.path ≡ old.path
  pub filters_are : new.filters ≡ old.filters ++ f ∷ []
  pub report_is : new.report.bytes
      ≡ old.report.bytes ++ count_line (string_bytes old.path) target entries
  pub opened : new.report.is_open ≡ true

-- The filters and their lines of the report stand behind those that were there.
pub record AddsTo (today : Day) (rs : List FilterRequest) (old new : FileDraft) : Type 0 where
  pub path_stays : new.path ≡ old.path
  pub filters_are : new.filters ≡ old.filters ++ map (filter_for today) rs
  pub report_is : new.report.bytes
      ≡ old.report.bytes ++ flat_map (report_line (string_bytes old.path) today) rs
  pub opened : new.report.is_open ≡ true

-- Each platform's filters are added to its file.
pub record AddsAll (today : Day) (rs : List FilterRequest) (old new : FileDrafts) : Type 0 where
  pub slip_is : requests_slip today rs ≡ None
  pub each : (kind : Kind) → AddsTo today (requests_on kind rs) (draft_on kind old) (draft_on kind new)
  pub taken : AllByRecursion (IsTakenFor today) rs

-- All filters are added, or the first slip is given.
abbrev pub Adds : {X : Type 0} → Day → List FilterRequest → FileDrafts → FileDrafts
    → Result X Refusal → Type 0
Adds today rs old new (Ok x) = AddsAll today rs old new
Adds today rs old new (Err (refusals.Slip s)) = requests_slip today rs ≡ Some s
Adds today rs old new (Err refusals.Memory) = Unit {0}

-- ---- a whole policy

pub record IsEmptyDraft (path : List ℕ) (draft : FileDraft) : Type 0 where
  pub path_is : string_bytes draft.path ≡ path
  pub filters_are : draft.filters ≡ []
  pub report_is : draft.report.bytes ≡ []
  pub opened : draft.report.is_open ≡ true

abbrev pub AreEmptyDrafts : List ℕ → List ℕ → FileDrafts → Type 0
AreEmptyDrafts output policy drafts =
    (kind : Kind) → IsEmptyDraft (path_of kind output policy) (draft_on kind drafts)

-- A platform's filters stand in its file, in order, with their lines of the report.
pub record IsDraftOf (path : List ℕ) (today : Day) (rs : List FilterRequest) (draft : FileDraft)
    : Type 0 where
  pub path_is : string_bytes draft.path ≡ path
  pub filters_are : draft.filters ≡ map (filter_for today) rs
  pub report_is : draft.report.bytes ≡ flat_map (report_line path today) rs

pub record PreparesAll (output policy : List ℕ) (today : Day) (loaded : Loaded)
    (drafts : FileDrafts) : Type 0 where
  pub slip_is : loaded_slip today loaded ≡ None
  pub each : (kind : Kind) → IsDraftOf (path_of kind output policy) today
      (requests_on kind (requests_of loaded)) (draft_on kind drafts)
  pub taken : AllByRecursion (IsTakenFor today) (requests_of loaded)

abbrev pub Prepares : List ℕ → List ℕ → Day → Loaded → Result FileDrafts Refusal → Type 0
Prepares output policy today loaded (Ok drafts) = PreparesAll output policy today loaded drafts
Prepares output policy today loaded (Err (refusals.Slip s)) = loaded_slip today loaded ≡ Some s
Prepares output policy today loaded (Err refusals.Memory) = Unit {0}

-- The filters are prepared and, where it is asked for, no term is shaded.
pub record JudgesAll (o : Options) (today : Day) (loaded : Loaded) (drafts : FileDrafts) : Type 0 where
  pub prepared : PreparesAll o.output o.policy today loaded drafts
  pub none_shaded : asked_shaded o.shade_check today loaded ≡ None

abbrev pub JudgesSo : Options → Day → Loaded → Result FileDrafts Refusal → Type 0
JudgesSo o today loaded (Ok drafts) = JudgesAll o today loaded drafts
JudgesSo o today loaded (Err (refusals.Slip s)) = job_slip o today loaded ≡ Some s
JudgesSo o today loaded (Err refusals.Memory) = Unit {0}

-- ---- the files

-- The file of a platform, where it has filters.
abbrev pub filter_file_with : Kind → FileDraft → List Filter → List FilterFile
filter_file_with kind draft [] = []
filter_file_with kind draft (f ∷ fs) =
    record { kind = kind; path = draft.path; filters = f ∷ fs } ∷ []

abbrev pub filter_file_of : Kind → FileDraft → List FilterFile
filter_file_of kind draft = filter_file_with kind draft draft.filters

abbrev pub filter_file_on : FileDrafts → Kind → List FilterFile
filter_file_on drafts kind = filter_file_of kind (draft_on kind drafts)

pub record AddsFile (kind : Kind) (draft : FileDraft) (old new : Work) : Type 0 where
  pub files_are : new.files.items ≡ old.files.items ++ filter_file_of kind draft
  pub report_is : new.report.bytes ≡ old.report.bytes ++ draft.report.bytes
  pub opened : new.report.is_open ≡ true

-- The work has each platform's file and, behind these lines, its report, in the order of the platforms.
pub record IsWorkOf (lines : List ℕ) (drafts : FileDrafts) (work : Work) : Type 0 where
  pub files_are : work.files.items ≡ flat_map (filter_file_on drafts) platforms
  pub report_is : work.report.bytes
      ≡ lines ++ flat_map (λ kind. (draft_on kind drafts).report.bytes) platforms

-- What is to be written of a loaded policy.
pub record IsPlanned (o : Options) (today : Day) (loaded : Loaded) (work : Work) : Type 0 where
  pub plan_is : planned o today loaded ≡ Ok (plan_of o today loaded)
  pub ready : IsReady (plan_of o today loaded) work
  pub writable : AreWritable work.files.items

abbrev pub PlansLoaded : Options → Day → Loaded → Result Work Rejection → Type 0
PlansLoaded o today loaded (Ok work) = IsPlanned o today loaded work
PlansLoaded o today loaded (Err (rejections.Fault fault)) = planned o today loaded ≡ Err fault
PlansLoaded o today loaded (Err rejections.Memory) = Unit {0}
