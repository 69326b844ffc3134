-- What each ending of a run means: a record for each. `acl_run: Endings` has those that every program has; here is what
-- aclgen's own work leaves.
use Rattle.std.specs.Prelude.{◌≡◌, ℕ, List, Option, None, Some, Result, Ok, Err, IsSome, IsSomeAnd}
use Rattle.std.specs.List.{AllByRecursion}
use Rattle.acl_text.specs.declared.faults.Fault.{Fault}
use Rattle.acl_host.specs.declared.days.Day.{Day}
use Rattle.acl_host.specs.Files.{File, BothTell}
use Rattle.acl_host.specs.Outside.{AddsFront}
use Rattle.acl_options.specs.CommandLines.{Options}
use Rattle.acl_options.specs.ComputableOptions.{asks_clock, options_of}
use Rattle.acl_filters.specs.CheckedFilters.{IsShort}
use Rattle.acl_job.specs.FileLists.{HoldsTexts, Interrupted}
use Rattle.acl_job.specs.FileMeanings.{HoldsMeaning}
use Rattle.acl_job.specs.Job.{Plan, IsJob, filters_of, report_of, texts_of}
use Rattle.acl_job.specs.Removals.{ShadedCanGo}
use Rattle.acl_run.specs.Asked.{Asked}
use Rattle.acl_run.specs.Endings.{EndsAsking, EndsDone, EndsLooking, EndsRejected, EndsReporting, EndsTelling, EndsUsage, EndsWanting, KeepsRow}
use Rattle.acl_run.specs.Failures.{RoseAt}
use Rattle.acl_run.specs.Lines.{outside_line}
use Rattle.acl_run.specs.Told.{Got, OnItsDay, Tried, Untouched}
use Rattle.acl_run.specs.Worlds.{World}
use Rattle.acl_run.specs.declared.endings.Ended.{Ended}
use Rattle.acl_run.specs.declared.endings.Ended.TheVariants as ended
use Rattle.acl_run.specs.declared.endings.Which.{Which}
use Rattle.acl_run.specs.declared.endings.Which.TheVariants as which
use Rattle.aclgen_core.specs.FaultLines.{program_name, usage_line}

-- What the words ask of aclgen.
abbrev pub asked : List (List ℕ) → Asked Options Plan
asked words = record {
  name = program_name;
  usage = usage_line;
  options = options_of words;
  asks_clock = asks_clock words;
  is_job = IsJob words;
}

-- ---- the headline

-- Each file of the plan holds a text that means what the policy asks for; the text is that of its filters, and every
-- other file is as it was.
pub record IsWritten (plan : Plan) (old new : List File) : Type 0 where
  pub each : AllByRecursion (HoldsMeaning plan.naming plan.today new) plan.files
  pub holds : HoldsTexts (texts_of plan) old new

-- The job of the words is this plan: its files are written, its report stands on standard output, each filter is short,
-- and all shaded terms of each block can go at once.
pub record IsCompiled (words : List (List ℕ)) (old new : World) (day : Day) (files : List File) (plan : Plan)
    : Type 0 where
  pub job : IsJob words day files (Some (Ok plan))
  pub written : IsSomeAnd new.disk.files (IsWritten plan files)
  pub report : Got (report_of plan) old.out.told new.out.told
  pub short : AllByRecursion (λ f. AllByRecursion IsShort (filters_of plan.today f)) plan.files
  pub shaded : AllByRecursion (ShadedCanGo plan.naming plan.today) plan.blocks

abbrev pub Headline : List (List ℕ) → World → World → Day → List File → Type 0
Headline words old new day files = (plan : Plan) × IsCompiled words old new day files plan

-- ---- a job that was cut off

-- What an interrupted writing leaves: the files before one are whole, that one holds anything, and every other file is
-- as it was.
abbrev pub LeavesFiles : List (List ℕ) → World → World → Day → List File → Type 0
LeavesFiles words old new day files = (plan : Plan) × IsJob words day files (Some (Ok plan))
    × IsSomeAnd new.disk.files (Interrupted (texts_of plan) files)

pub record EndsWriting (words : List (List ℕ)) (old new : World) : Type 0 where
  pub cause : RoseAt which.Write old new
  pub accepted : IsSome (options_of words)
  pub left : OnItsDay (asks_clock words) old.disk old.clock (LeavesFiles words old new)
  pub same_out : new.out.told ≡ old.out.told
  pub line : Tried (outside_line program_name which.Write) old.err new.err

-- The files are written, and standard output got a front of the report.
abbrev pub LeavesReport : List (List ℕ) → World → World → Day → List File → Type 0
LeavesReport words old new day files = (plan : Plan) × IsJob words day files (Some (Ok plan))
    × IsSomeAnd new.disk.files (IsWritten plan files)
    × BothTell old.out.told new.out.told (AddsFront (report_of plan))

-- What stands where memory was wanted: with a fault nothing was touched; with a plan its writing may have been
-- interrupted, and a front of its report may stand on standard output.
abbrev pub LeavesPart : World → World → Option (Result Plan Fault) → List File → Type 0
LeavesPart old new None files = Untouched old new
LeavesPart old new (Some (Err fault)) files = Untouched old new
LeavesPart old new (Some (Ok plan)) files = IsSomeAnd new.disk.files (Interrupted (texts_of plan) files)
    × BothTell old.out.told new.out.told (AddsFront (report_of plan))

-- ---- the table

abbrev pub EndsOutside : List (List ℕ) → World → World → Which → Type 0
EndsOutside words old new which.List = EndsLooking (asked words) which.List old new
EndsOutside words old new which.Read = EndsLooking (asked words) which.Read old new
EndsOutside words old new which.Write = EndsWriting words old new
EndsOutside words old new which.Out = EndsReporting (asked words) (LeavesReport words old new) old new
EndsOutside words old new which.Err = EndsTelling (asked words) old new
EndsOutside words old new which.Clock = EndsAsking (asked words) old new

abbrev pub EndsSo : List (List ℕ) → World → World → Ended → Type 0
EndsSo words old new ended.Done = EndsDone (asked words) (Headline words old new) old new
EndsSo words old new ended.Usage = EndsUsage (asked words) old new
EndsSo words old new (ended.Rejected fault) = EndsRejected (asked words) fault old new
EndsSo words old new (ended.Outside w) = EndsOutside words old new w
EndsSo words old new ended.Memory = EndsWanting (asked words) (LeavesPart old new) old new

-- What a run keeps, whatever its ending.
abbrev pub Keeps : List (List ℕ) → World → World → Ended → Type 0
Keeps words old new result = KeepsRow (asked words) (EndsSo words old new) old new result
