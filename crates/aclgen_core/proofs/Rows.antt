-- The rows of the endings of aclgen, from what deciding and acting give.
use Rattle.std.proofs.Common.{◌≡◌, ◌⊎◌, ℕ, inl, inr, List, [], ◌∷◌, map, Option, None, Some, Result, Ok, Err, IfNone, IfSome, IsSomeAnd, refl, sym, subst, ◌∙◌}
use Rattle.std.specs.List.{AllByRecursion}
use Rattle.acl_text.specs.declared.faults.Fault.{Fault}
use Rattle.acl_text.specs.Output.{Rose}
use Rattle.acl_host.specs.declared.days.Day.{Day}
use Rattle.acl_host.specs.Files.{File, BothTell}
use Rattle.acl_host.specs.Outside.{AddsFront}
use Rattle.acl_naming.specs.Definitions.{Naming}
use Rattle.acl_filters.specs.PlatformFiles.{sections_on}
use Rattle.acl_options.specs.CommandLines.{Options}
use Rattle.acl_options.specs.ComputableOptions.{asks_clock, options_of}
use Rattle.acl_options.specs.WorkloadWords.{workload_of}
use Rattle.acl_run.specs.Endings.{EndsAsAsked, EndsDone, EndsReporting, EndsWanting}
use Rattle.acl_run.specs.Failures.{NoneRose, RoseAt}
use Rattle.acl_run.specs.Deciding.{Asks, DecidesPlanned, LooksAlone, OnlySeen}
use Rattle.acl_run.specs.Told.{Got, OnItsDay, Untouched, or_day}
use Rattle.acl_run.specs.Worlds.{Disk, Stream, Watch, World, world}
use Rattle.acl_run.specs.declared.deciding.Decision.TheVariants as decided
use Rattle.acl_run.specs.declared.endings.Ended.{Ended}
use Rattle.acl_run.specs.declared.endings.Ended.TheVariants as ended
use Rattle.acl_run.specs.declared.endings.Which.{Which}
use Rattle.acl_run.specs.declared.endings.Which.TheVariants as which
use Rattle.acl_run.proofs.Rows.{HasOneJob, HasRows, complete-done, complete-memory, complete-rejected, complete-usage, no-options, worked}
use Rattle.acl_run.proofs.ToldLaws.{told-goes-on, where-told}
use Rattle.acl_run.proofs.TriedLines.{no-front}
use Rattle.acl_job.specs.AskedFiles.{PlanFile}
use Rattle.acl_job.specs.FileLists.{HoldsAll, HoldsTexts, Interrupted}
use Rattle.acl_job.specs.FileMeanings.{HoldsMeaning, Means}
use Rattle.acl_job.specs.Job.{Plan, IsJob, IsJobOf, file_of, filters_of, report_of, texts_of}
use Rattle.acl_job.specs.PlannedTexts.{IsOfSections}
use Rattle.acl_job.specs.Removals.{ShadedCanGo}
use Rattle.acl_job.specs.Works.{IsReady, texts_in}
use Rattle.acl_job.specs.declared.planning.Work.{Work}
use Rattle.acl_job.proofs.FileListLaws.{both-more}
use Rattle.acl_job.proofs.OneAnswer.{one-job}
use Rattle.acl_job.proofs.PlannedTextsLaws.{planned-texts}
use Rattle.acl_job.proofs.RemovalLaws.{shaded-can-go}
use Rattle.aclgen_core.specs.ActingSteps.{Acts, ActsAlone, ActsDone, ActsMemory, ActsOut, ActsSo, ActsWrite}
use Rattle.aclgen_core.specs.Endings.{EndsOutside, EndsSo, EndsWriting, Headline, IsWritten, Keeps, LeavesFiles, LeavesPart, LeavesReport, asked}
use Rattle.aclgen_core.specs.Runs.{Runs}
use Rattle.aclgen_core.specs.WorkloadRuns.{EndsWorkload}

-- ---- the job of the words

no-job : (words : List (List ℕ)) (day : Day) (files : List File) → options_of words ≡ None → IsJob words day files None
no-job words day files e = subst (λ (w : Option Options). IsJobOf w day files None) (sym e) tt

one : (words : List (List ℕ)) → HasOneJob (asked words)
one words = record { same = one-job words; none = λ e day files. no-job words day files e }

pub outside-cause : (words : List (List ℕ)) (w : Which) (old new : World) → EndsOutside words old new w → RoseAt w old new
outside-cause words which.List old new e = e.cause
outside-cause words which.Read old new e = e.cause
outside-cause words which.Write old new e = e.cause
outside-cause words which.Out old new e = e.cause
outside-cause words which.Err old new e = e.cause
outside-cause words which.Clock old new e = e.looking.cause

completes : (words : List (List ℕ)) (old new : World) (result : Ended) → EndsSo words old new result → NoneRose old new → EndsAsAsked (asked words) old result
completes words old new ended.Done e none =
    complete-done (asked words) (Headline words old new) old new (one words) (λ day files h. (h.0, h.1.job)) e
completes words old new ended.Usage e none = complete-usage (asked words) old new (one words) e
completes words old new (ended.Rejected fault) e none = complete-rejected (asked words) fault old new (one words) e
completes words old new (ended.Outside w) e none = absurd (none w (outside-cause words w old new e))
completes words old new ended.Memory e none = complete-memory (asked words) old

-- ---- where nothing was touched

none-left : (ts files : List File) → Interrupted ts files files
none-left ts files = (0, record { held = tt; others = λ q _. refl })

leaves-nothing : (old new : World) → Untouched old new → (job : Option (Result Plan Fault)) (files : List File) → old.disk.files ≡ Some files
    → LeavesPart old new job files
leaves-nothing old new same None files is = same
leaves-nothing old new same (Some (Err fault)) files is = same
leaves-nothing old new same (Some (Ok plan)) files is = (
  subst (λ t. IsSomeAnd t (Interrupted (texts_of plan) files)) (sym (same.same_files ∙ is)) (none-left (texts_of plan) files),
  subst (λ t. BothTell old.out.told t (AddsFront (report_of plan))) (sym same.same_out) (no-front (report_of plan) old.out.told),
)

-- What a job leaves, whatever it is.
abbrev LeavesSo : List (List ℕ) → World → World → Day → List File → Type 0
LeavesSo words old new day files = (job : Option (Result Plan Fault)) → IsJob words day files job → LeavesPart old new job files

leaves-none : (words : List (List ℕ)) (day : Day) (files : List File) (known job : Option (Result Plan Fault)) (old new : World)
    → IsJob words day files known → LeavesPart old new known files → IsJob words day files job → LeavesPart old new job files
leaves-none words day files known job old new is h other =
    subst (λ (j : Option (Result Plan Fault)). LeavesPart old new j files) (one-job words day files known job is other) h

-- The rows that every program has are those of aclgen.
pub rows : (words : List (List ℕ)) (old new : World) → HasRows (asked words) (LeavesPart old new) old new (EndsSo words old new)
rows words old new = record {
  usage = λ e. e;
  rejected = λ fault e. e;
  listing = λ e. e;
  reading = λ e. e;
  asking = λ e. e;
  telling = λ e. e;
  wanting = λ _ e. e;
  nothing = leaves-nothing old new;
  completes = completes words old new;
}

-- ---- writing

-- What is told of the files after, given what is told before.
both-some : (P : List File → List File → Type 0) (told told' : Option (List File)) (files : List File) → told ≡ Some files → BothTell told told' P → IsSomeAnd told' (P files)
both-some P told None files is h = absurd (subst (λ t. BothTell t None P) is h)
both-some P told (Some new) files is h = subst (λ t. BothTell t (Some new) P) is h

planned-leaves : (words : List (List ℕ)) (work : Work) (d : Disk) (c : Watch) (R : Day → List File → Type 0)
    → ((day : Day) (files : List File) → d.files ≡ Some files → (plan : Plan) → IsJob words day files (Some (Ok plan)) → IsReady plan work → R day files)
    → DecidesPlanned (asked words) IsReady work d c → OnItsDay (asks_clock words) d c R
planned-leaves words work d c R f h =
    told-goes-on (asks_clock words) c d.files (λ day files. (plan : Plan) × IsJob words day files (Some (Ok plan)) × IsReady plan work) R
    (λ day files is p. f day files is p.0 p.1 p.2) h.planned

-- A text that stands at its path, and means what is asked, is one that the file holds.
held-texts : (n : Naming) (today : Day) (new : List File) (fs : List PlanFile) → AllByRecursion (IsOfSections n today) fs → HoldsAll (map (file_of today) fs) new
    → AllByRecursion (HoldsMeaning n today new) fs
held-texts n today new [] are held = tt
held-texts n today new (f ∷ fs) are held = (
  subst (λ t. IsSomeAnd t (Means n today f.kind f.requests)) (sym held.0) (sections_on f.kind (filters_of today f), are.0),
  held-texts n today new fs are.1 held.1,
)

written-plan : (plan : Plan) (work : Work) (d d' : Disk) (files : List File) → d.files ≡ Some files → IsReady plan work
    → AllByRecursion (IsOfSections plan.naming plan.today) plan.files → BothTell d.files d'.files (HoldsTexts (texts_in work))
    → IsSomeAnd d'.files (IsWritten plan files)
written-plan plan work d d' files is ready are h =
    both-some (IsWritten plan) d.files d'.files files is
    (both-more (HoldsTexts (texts_in work)) (IsWritten plan) d.files d'.files
    (λ a b p.
    let holds = subst (λ ts. HoldsTexts ts a b) ready.texts_are p in
    record { each = held-texts plan.naming plan.today b plan.files are holds.held; holds = holds }) h)

left-plan : (plan : Plan) (work : Work) (d d' : Disk) (files : List File) → d.files ≡ Some files → IsReady plan work → BothTell d.files d'.files (Interrupted (texts_in work))
    → IsSomeAnd d'.files (Interrupted (texts_of plan) files)
left-plan plan work d d' files is ready h =
    both-some (Interrupted (texts_of plan)) d.files d'.files files is
    (subst (λ ts. BothTell d.files d'.files (Interrupted ts)) ready.texts_are h)

job-shaded : (words : List (List ℕ)) (day : Day) (files : List File) (plan : Plan) → IsJob words day files (Some (Ok plan))
    → AllByRecursion (ShadedCanGo plan.naming plan.today) plan.blocks
job-shaded words day files plan job = by (options_of words) job
  where
    by : (o : Option Options) → IsJobOf o day files (Some (Ok plan)) → AllByRecursion (ShadedCanGo plan.naming plan.today) plan.blocks
    by None h = absurd h
    by (Some o) h = shaded-can-go o (or_day o.date day) files plan h

done-row : (words : List (List ℕ)) (work : Work) (d d' : Disk) (o o' e e' : Stream) (c c' : Watch) → DecidesPlanned (asked words) IsReady work d c → ActsDone work d d' o o' e e'
    → EndsDone (asked words) (Headline words (world d o e c) (world d' o' e' c')) (world d o e c) (world d' o' e' c')
done-row words work d d' o o' e e' c c' planned acts = record {
  accepted = planned.accepted;
  written = planned-leaves words work d c (Headline words (world d o e c) (world d' o' e' c'))
      (λ day files is plan job ready. (
        plan,
        record {
          job = job;
          written = written-plan plan work d d' files is ready (planned-texts words day files plan job) acts.written;
          report = subst (λ t. Got t o.told o'.told) ready.report_is acts.report_got;
          short = ready.short;
          shaded = job-shaded words day files plan job;
        },
      )) planned;
  report = (work.report.bytes, acts.report_got);
  nothing_on_err = acts.err_rests;
}

write-row : (words : List (List ℕ)) (work : Work) (d d' : Disk) (o o' e e' : Stream) (c c' : Watch) → DecidesPlanned (asked words) IsReady work d c → ActsWrite work d d' o o' e e'
    → EndsWriting words (world d o e c) (world d' o' e' c')
write-row words work d d' o o' e e' c c' planned acts = record {
  cause = acts.cause;
  accepted = planned.accepted;
  left = planned-leaves words work d c (LeavesFiles words (world d o e c) (world d' o' e' c'))
      (λ day files is plan job ready. (plan, job, left-plan plan work d d' files is ready acts.left)) planned;
  same_out = acts.out_rests;
  line = acts.line;
}

out-row : (words : List (List ℕ)) (work : Work) (d d' : Disk) (o o' e e' : Stream) (c c' : Watch) → DecidesPlanned (asked words) IsReady work d c → ActsOut work d d' o o' e e'
    → EndsReporting (asked words) (LeavesReport words (world d o e c) (world d' o' e' c')) (world d o e c) (world d' o' e' c')
out-row words work d d' o o' e e' c c' planned acts = record {
  cause = acts.cause;
  accepted = planned.accepted;
  written = planned-leaves words work d c (LeavesReport words (world d o e c) (world d' o' e' c'))
      (λ day files is plan job ready. (
        plan,
        job,
        written-plan plan work d d' files is ready (planned-texts words day files plan job) acts.written,
        subst (λ t. BothTell o.told o'.told (AddsFront t)) ready.report_is acts.report_front,
      )) planned;
  report = (work.report.bytes, acts.report_front);
  line = acts.line;
}

memory-row : (words : List (List ℕ)) (work : Work) (d d' : Disk) (o o' e e' : Stream) (c c' : Watch) → DecidesPlanned (asked words) IsReady work d c → ActsMemory work d d' o o' e e'
    → EndsWanting (asked words) (LeavesPart (world d o e c) (world d' o' e' c')) (world d o e c) (world d' o' e' c')
memory-row words work d d' o o' e e' c c' planned acts = record {
  cause = inr acts.cause;
  words_untouched = λ none. absurd (no-options (options_of words) none planned.accepted);
  leaves = where-told (asks_clock words) c d.files (LeavesSo words (world d o e c) (world d' o' e' c'))
      (planned-leaves words work d c (LeavesSo words (world d o e c) (world d' o' e' c'))
      (λ day files is plan known ready job. leaves-none words day files (Some (Ok plan)) job (world d o e c) (world d' o' e' c') known
      (left-plan plan work d d' files is ready acts.left, subst (λ t. BothTell o.told o'.told (AddsFront t)) ready.report_is acts.report_front)) planned);
  report = (work.report.bytes, acts.report_front);
  line = inl acts.err_rests;
}

acts-row : (words : List (List ℕ)) (work : Work) (d d' : Disk) (o o' e e' : Stream) (c c' : Watch) (result : Ended) → DecidesPlanned (asked words) IsReady work d c
    → ActsSo work d d' o o' e e' result → EndsSo words (world d o e c) (world d' o' e' c') result
acts-row words work d d' o o' e e' c c' ended.Done planned acts = done-row words work d d' o o' e e' c c' planned acts
acts-row words work d d' o o' e e' c c' ended.Usage planned acts = absurd acts
acts-row words work d d' o o' e e' c c' (ended.Rejected fault) planned acts = absurd acts
acts-row words work d d' o o' e e' c c' (ended.Outside which.List) planned acts = absurd acts
acts-row words work d d' o o' e e' c c' (ended.Outside which.Read) planned acts = absurd acts
acts-row words work d d' o o' e e' c c' (ended.Outside which.Write) planned acts = write-row words work d d' o o' e e' c c' planned acts
acts-row words work d d' o o' e e' c c' (ended.Outside which.Out) planned acts = out-row words work d d' o o' e e' c c' planned acts
acts-row words work d d' o o' e e' c c' (ended.Outside which.Err) planned acts = absurd acts
acts-row words work d d' o o' e e' c c' (ended.Outside which.Clock) planned acts = absurd acts
acts-row words work d d' o o' e e' c c' ended.Memory planned acts = memory-row words work d d' o o' e e' c c' planned acts

-- What acting gives holds from the tree as it was before deciding, which changed none of its files.

refused-from : (d s d' : Disk) (o o' : Stream) → OnlySeen d s → Rose s.write_refusals d'.write_refusals ⊎ Rose o.refusals o'.refusals
    → Rose d.write_refusals d'.write_refusals ⊎ Rose o.refusals o'.refusals
refused-from d s d' o o' seen (inl h) = inl (subst (λ n. Rose n d'.write_refusals) seen.refusals_stay h)
refused-from d s d' o o' seen (inr h) = inr h

acts-from : (work : Work) (d s d' : Disk) (o o' e e' : Stream) (result : Ended) → OnlySeen d s → ActsSo work s d' o o' e e' result → ActsSo work d d' o o' e e' result
acts-from work d s d' o o' e e' ended.Done seen h = record {
  written = subst (λ t. BothTell t d'.files (HoldsTexts (texts_in work))) seen.files_stay h.written;
  report_got = h.report_got;
  err_rests = h.err_rests;
}
acts-from work d s d' o o' e e' ended.Usage seen h = absurd h
acts-from work d s d' o o' e e' (ended.Rejected fault) seen h = absurd h
acts-from work d s d' o o' e e' (ended.Outside which.List) seen h = absurd h
acts-from work d s d' o o' e e' (ended.Outside which.Read) seen h = absurd h
acts-from work d s d' o o' e e' (ended.Outside which.Write) seen h = record {
  cause = subst (λ n. Rose n d'.write_faults) seen.faults_stay h.cause;
  left = subst (λ t. BothTell t d'.files (Interrupted (texts_in work))) seen.files_stay h.left;
  out_rests = h.out_rests;
  line = h.line;
}
acts-from work d s d' o o' e e' (ended.Outside which.Out) seen h = record {
  cause = h.cause;
  written = subst (λ t. BothTell t d'.files (HoldsTexts (texts_in work))) seen.files_stay h.written;
  report_front = h.report_front;
  line = h.line;
}
acts-from work d s d' o o' e e' (ended.Outside which.Err) seen h = absurd h
acts-from work d s d' o o' e e' (ended.Outside which.Clock) seen h = absurd h
acts-from work d s d' o o' e e' ended.Memory seen h = record {
  cause = refused-from d s d' o o' seen h.cause;
  left = subst (λ t. BothTell t d'.files (Interrupted (texts_in work))) seen.files_stay h.left;
  report_front = h.report_front;
  err_rests = h.err_rests;
}

pub planned-keeps : (words : List (List ℕ)) (work : Work) (result : Ended) (d s d' : Disk) (o o' e e' : Stream) (c c' : Watch) → OnlySeen d s → Asks (asks_clock words) c c'
    → LooksAlone (decided.Planned work) d s c c' → DecidesPlanned (asked words) IsReady work d c → Acts work s d' o o' e e' result → ActsAlone s d' o o' e e' result
    → Keeps words (world d o e c) (world d' o' e' c') result
planned-keeps words work result d s d' o o' e e' c c' seen asks looks planned acts alone =
    worked (asked words) (LeavesPart (world d o e c) (world d' o' e' c')) (EndsSo words (world d o e c) (world d' o' e' c')) d s d' o o' e e' c c' result
    (rows words (world d o e c) (world d' o' e' c')) acts.none_begun seen asks acts.disk_counts acts.out_counts acts.err_counts looks (alone c')
    (acts-row words work d d' o o' e e' c c' result planned (acts-from work d s d' o o' e e' result seen acts.so))

-- ---- the whole run

-- Where the words do not ask for the workload, the job that they ask for is done.
pub compiled : (words : List (List ℕ)) (old new : World) (result : Ended) → workload_of words ≡ None → Keeps words old new result → Runs words old new result
compiled words old new result none keeps = (
  subst (λ o. IfSome o (λ terms. EndsWorkload terms old new result)) (sym none) tt,
  subst (λ o. IfNone o (Keeps words old new result)) (sym none) keeps,
)
