-- A run that is decided, and then told, has the rows of one that prints.
use Rattle.std.proofs.Common.{◌≡◌, ◌≢◌, ℕ, inl, inr, List, [], Option, None, Some, Result, Ok, Err, option_map, refl, ap, sym, subst, ◌∙◌, append-nil, le_refl}
use Rattle.acl_text.specs.declared.faults.Fault.{Fault}
use Rattle.acl_text.specs.Output.{Rose}
use Rattle.acl_text.specs.declared.wholes.Whole.{Whole}
use Rattle.acl_host.specs.declared.days.Day.{Day}
use Rattle.acl_host.specs.Files.{File, BothTell}
use Rattle.acl_host.specs.Outside.{AddsFront}
use Rattle.acl_run.specs.Asked.{Asked}
use Rattle.acl_run.specs.Deciding.{Asks, Decides, DecidesPlanned, LooksAlone, OnlySeen}
use Rattle.acl_run.specs.Endings.{EndsAsAsked, EndsDone, EndsReporting, EndsWanting, KeepsRow}
use Rattle.acl_run.specs.Failures.{NoneFailed, NoneRose, RoseAt}
use Rattle.acl_run.specs.Lines.{outside_line}
use Rattle.acl_run.specs.Telling.{Reports, ReportsOn}
use Rattle.acl_run.specs.Told.{Got, OnItsDay, Tried, Untouched}
use Rattle.acl_run.specs.Worlds.{Disk, DiskCountsGrow, Stream, StreamCountsGrow, Watch, World, world}
use Rattle.acl_run.specs.declared.deciding.Decision.{Decision}
use Rattle.acl_run.specs.declared.deciding.Decision.TheVariants as decided
use Rattle.acl_run.specs.declared.endings.Ended.{Ended}
use Rattle.acl_run.specs.declared.endings.Ended.TheVariants as ended
use Rattle.acl_run.specs.declared.endings.Which.{Which}
use Rattle.acl_run.specs.declared.endings.Which.TheVariants as which
use Rattle.acl_run.proofs.FaultCounts.{none-failed, reported-alone}
use Rattle.acl_run.proofs.Rows.{HasOneJob, HasRows, complete-done, complete-memory, complete-rejected, complete-usage, fault-keeps, memory-keeps, no-options, outside-keeps, usage-keeps, worked}
use Rattle.acl_run.proofs.ToldLaws.{told-goes-on, where-told}
use Rattle.acl_run.proofs.TriedLines.{no-front, whole-front}
use Rattle.acl_run.specs.Finishing.{Finishes, IsTextOf, Tells, text_in}
use Rattle.acl_run.specs.Printing.{EndsOutside, EndsSo, Headline, LeavesFront, LeavesPart, Prints, TellsFront, TellsWhole}

module _ {O A : Type 0} (q : Asked O A) (text : A → Option (List ℕ)) (Means : A → Type 0) where
  outside-cause : (w : Which) (old new : World) → EndsOutside q text old new w → RoseAt w old new
  outside-cause which.List old new e = e.cause
  outside-cause which.Read old new e = e.cause
  outside-cause which.Write old new e = absurd e
  outside-cause which.Out old new e = e.cause
  outside-cause which.Err old new e = e.cause
  outside-cause which.Clock old new e = e.looking.cause

  completes : HasOneJob q → (old new : World) (result : Ended) → EndsSo q text Means old new result → NoneRose old new → EndsAsAsked q old result
  completes one old new ended.Done e none = complete-done q (Headline q text Means old new) old new one (λ day files h. (h.0, h.1.job)) e
  completes one old new ended.Usage e none = complete-usage q old new one e
  completes one old new (ended.Rejected fault) e none = complete-rejected q fault old new one e
  completes one old new (ended.Outside w) e none = absurd (none w (outside-cause w old new e))
  completes one old new ended.Memory e none = complete-memory q old

  no-text : (t : Option (List ℕ)) (old new : Stream) → new.told ≡ old.told → TellsFront t old new
  no-text None old new e = e
  no-text (Some bytes) old new e = subst (λ told. BothTell old.told told (AddsFront bytes)) (sym e) (no-front bytes old.told)

  leaves-nothing : (old new : World) → Untouched old new → (job : Option (Result A Fault)) (files : List File) → old.disk.files ≡ Some files
      → LeavesPart text old new job files
  leaves-nothing old new same None files is = same
  leaves-nothing old new same (Some (Err fault)) files is = same
  leaves-nothing old new same (Some (Ok answer)) files is = (same.same_files, no-text (text answer) old.out new.out same.same_out)

  -- the rows that every program has
  rows : HasOneJob q → (old new : World) → HasRows q (LeavesPart text old new) old new (EndsSo q text Means old new)
  rows one old new = record {
    usage = λ e. e;
    rejected = λ fault e. e;
    listing = λ e. e;
    reading = λ e. e;
    asking = λ e. e;
    telling = λ e. e;
    wanting = λ _ e. e;
    nothing = leaves-nothing old new;
    completes = completes one old new;
  }

  -- ---- where there is an answer

  planned-leaves : (work : Option Whole) (d : Disk) (c : Watch) (R : Day → List File → Type 0)
      → ((day : Day) (files : List File) (answer : A) → q.is_job day files (Some (Ok answer)) → IsTextOf text Means answer work → R day files)
      → DecidesPlanned q (IsTextOf text Means) work d c → OnItsDay q.asks_clock d c R
  planned-leaves work d c R f h =
      told-goes-on q.asks_clock c d.files (λ day files. (answer : A) × q.is_job day files (Some (Ok answer)) × IsTextOf text Means answer work) R
      (λ day files is p. f day files p.0 p.1 p.2) h.planned

  done-row : (work : Option Whole) (d d' : Disk) (o o' e e' : Stream) (c c' : Watch) → DecidesPlanned q (IsTextOf text Means) work d c
      → TellsWhole (text_in work) o o' → ((t : List ℕ) × Got t o.told o'.told) → e'.told ≡ e.told
      → EndsDone q (Headline q text Means (world d o e c) (world d' o' e' c')) (world d o e c) (world d' o' e' c')
  done-row work d d' o o' e e' c c' planned told got silent = record {
    accepted = planned.accepted;
    written = planned-leaves work d c (Headline q text Means (world d o e c) (world d' o' e' c'))
        (λ day files answer job ready. (answer, record { job = job; told = subst (λ t. TellsWhole t o o') ready.text_is told; means = ready.means })) planned;
    report = got;
    nothing_on_err = silent;
  }

  out-row : (work : Option Whole) (d d' : Disk) (o o' e e' : Stream) (c c' : Watch) → DecidesPlanned q (IsTextOf text Means) work d c
      → Rose o.faults o'.faults → TellsFront (text_in work) o o' → ((t : List ℕ) × BothTell o.told o'.told (AddsFront t)) → Tried (outside_line q.name which.Out) e e'
      → EndsReporting q (LeavesFront q text (world d o e c) (world d' o' e' c')) (world d o e c) (world d' o' e' c')
  out-row work d d' o o' e e' c c' planned rose front got line = record {
    cause = rose;
    accepted = planned.accepted;
    written = planned-leaves work d c (LeavesFront q text (world d o e c) (world d' o' e' c'))
        (λ day files answer job ready. (answer, job, subst (λ t. TellsFront t o o') ready.text_is front)) planned;
    report = got;
    line = line;
  }

  leaves-one : HasOneJob q → (day : Day) (files : List File) (known job : Option (Result A Fault)) (old new : World)
      → q.is_job day files known → LeavesPart text old new known files → q.is_job day files job → LeavesPart text old new job files
  leaves-one one day files known job old new is h other =
      subst (λ (j : Option (Result A Fault)). LeavesPart text old new j files) (one.same day files known job is other) h

  memory-row : HasOneJob q → (work : Option Whole) (d d' : Disk) (o o' e e' : Stream) (c c' : Watch) → DecidesPlanned q (IsTextOf text Means) work d c
      → d'.files ≡ d.files → TellsFront (text_in work) o o' → ((t : List ℕ) × BothTell o.told o'.told (AddsFront t)) → e'.told ≡ e.told
      → EndsWanting q (LeavesPart text (world d o e c) (world d' o' e' c')) (world d o e c) (world d' o' e' c')
  memory-row one work d d' o o' e e' c c' planned same front got silent =
      let Left : Day → List File → Type 0 = λ day files. (job : Option (Result A Fault)) → q.is_job day files job
      → LeavesPart text (world d o e c) (world d' o' e' c') job files in
      record {
        cause = inl same;
        words_untouched = λ none. absurd (no-options q.options none planned.accepted);
        leaves = where-told q.asks_clock c d.files Left (planned-leaves work d c Left
            (λ day files answer known ready job. leaves-one one day files (Some (Ok answer)) job (world d o e c) (world d' o' e' c') known
            (same, subst (λ t. TellsFront t o o') ready.text_is front)) planned);
        report = got;
        line = inl silent;
      }

  text-row : HasOneJob q → (w : Whole) (d d' : Disk) (o o' e e' : Stream) (c c' : Watch) (result : Ended) → DecidesPlanned q (IsTextOf text Means) (Some w) d c
      → d'.files ≡ d.files → Reports (outside_line q.name which.Out) w.bytes o o' e e' result
      → EndsSo q text Means (world d o e c) (world d' o' e' c') result
  text-row one w d d' o o' e e' c c' ended.Done planned same h =
      done-row (Some w) d d' o o' e e' c c' planned h.0 (w.bytes, h.0) (ap (λ (s : Stream). s.told) h.2)
  text-row one w d d' o o' e e' c c' ended.Usage planned same h = absurd h
  text-row one w d d' o o' e e' c c' (ended.Rejected fault) planned same h = absurd h
  text-row one w d d' o o' e e' c c' (ended.Outside which.List) planned same h = absurd h
  text-row one w d d' o o' e e' c c' (ended.Outside which.Read) planned same h = absurd h
  text-row one w d d' o o' e e' c c' (ended.Outside which.Write) planned same h = absurd h
  text-row one w d d' o o' e e' c c' (ended.Outside which.Out) planned same h =
      out-row (Some w) d d' o o' e e' c c' planned h.0 h.1 (w.bytes, h.1) h.2
  text-row one w d d' o o' e e' c c' (ended.Outside which.Err) planned same h = absurd h
  text-row one w d d' o o' e e' c c' (ended.Outside which.Clock) planned same h = absurd h
  text-row one w d d' o o' e e' c c' ended.Memory planned same h =
      memory-row one (Some w) d d' o o' e e' c c' planned same h.1 (w.bytes, h.1) (ap (λ (s : Stream). s.told) h.3)

  -- ---- the whole run

  disk-stays : (d : Disk) → DiskCountsGrow d d
  disk-stays d = record { lists = le_refl d.list_faults; reads = le_refl d.read_faults; writes = le_refl d.write_faults; refusals = le_refl d.write_refusals }

  stream-stays : (s : Stream) → StreamCountsGrow s s
  stream-stays s = record { faults_grow = le_refl s.faults; refusals_grow = le_refl s.refusals }

  text-told : HasOneJob q → (w : Whole) (d d' : Disk) (o o' e e' : Stream) (c c' : Watch) (result : Ended) → d.begun ≡ None → OnlySeen d d' → Asks q.asks_clock c c'
      → ((o e : Stream) → NoneFailed (world d o e c) (world d' o e c')) → DecidesPlanned q (IsTextOf text Means) (Some w) d c
      → ReportsOn (outside_line q.name which.Out) w.bytes o o' e e' result
      → KeepsRow q (EndsSo q text Means (world d o e c) (world d' o' e' c')) (world d o e c) (world d' o' e' c') result
  text-told one w d d' o o' e e' c c' result none seen asks looks planned h =
      worked q (LeavesPart text (world d o e c) (world d' o' e' c')) (EndsSo q text Means (world d o e c) (world d' o' e' c')) d d' d' o o' e e' c c' result
      (rows one (world d o e c) (world d' o' e' c')) (seen.begun_stays ∙ none) seen asks (disk-stays d') h.out_counts h.err_counts looks
      (reported-alone (outside_line q.name which.Out) w.bytes d' d' o o' e e' result refl refl refl h.so c')
      (text-row one w d d' o o' e e' c c' result planned seen.files_stay h.so)

  got-nothing : (told : Option (List ℕ)) → Got [] told told
  got-nothing None = refl
  got-nothing (Some bytes) = ap Some (sym (append-nil bytes))

  nothing-told : HasOneJob q → (d d' : Disk) (o e : Stream) (c c' : Watch) → d.begun ≡ None → OnlySeen d d' → Asks q.asks_clock c c'
      → ((o e : Stream) → NoneFailed (world d o e c) (world d' o e c')) → DecidesPlanned q (IsTextOf text Means) None d c
      → KeepsRow q (EndsSo q text Means (world d o e c) (world d' o e c')) (world d o e c) (world d' o e c') ended.Done
  nothing-told one d d' o e c c' none seen asks looks planned =
      worked q (LeavesPart text (world d o e c) (world d' o e c')) (EndsSo q text Means (world d o e c) (world d' o e c')) d d' d' o o e e c c' ended.Done
      (rows one (world d o e c) (world d' o e c')) (seen.begun_stays ∙ none) seen asks (disk-stays d') (stream-stays o) (stream-stays e) looks (λ v. refl)
      (done-row None d d' o o e e c c' planned refl ([], got-nothing o.told) refl)

  -- nothing was told on standard output
  silent : (d d' : Disk) (o o' e e' : Stream) (c c' : Watch) (result : Ended) → o' ≡ o
      → KeepsRow q (EndsSo q text Means (world d o e c) (world d' o e' c')) (world d o e c) (world d' o e' c') result
      → KeepsRow q (EndsSo q text Means (world d o e c) (world d' o' e' c')) (world d o e c) (world d' o' e' c') result
  silent d d' o o' e e' c c' result same h =
      subst (λ (s : Stream). KeepsRow q (EndsSo q text Means (world d o e c) (world d' s e' c')) (world d o e c) (world d' s e' c') result) (sym same) h

  keeps : HasOneJob q → (decision : Decision (Option Whole)) (d d' : Disk) (o o' e e' : Stream) (c c' : Watch) (result : Ended) → d.begun ≡ None
      → Decides q (IsTextOf text Means) d d' c c' decision → LooksAlone decision d d' c c' → Finishes q.name q.usage decision o o' e e' result
      → KeepsRow q (EndsSo q text Means (world d o e c) (world d' o' e' c')) (world d o e c) (world d' o' e' c') result
  keeps one decided.Usage d d' o o' e e' c c' result none decides looks h =
      silent d d' o o' e e' c c' result h.0
      (usage-keeps q (LeavesPart text (world d o e c) (world d' o e' c')) (EndsSo q text Means (world d o e c) (world d' o e' c')) q.usage result d d' o e e' c c'
      (rows one (world d o e c) (world d' o e' c')) none decides.seen decides.asked looks decides.so refl h.1)
  keeps one (decided.Refused fault line) d d' o o' e e' c c' result none decides looks h =
      silent d d' o o' e e' c c' result h.0
      (fault-keeps q (LeavesPart text (world d o e c) (world d' o e' c')) (EndsSo q text Means (world d o e c) (world d' o e' c')) fault line.bytes result d d' o e e' c c'
      (rows one (world d o e c) (world d' o e' c')) none decides.seen decides.asked looks decides.so h.1)
  keeps one (decided.Planned None) d d' o o' e e' c c' result none decides looks h =
      silent d d' o o' e e' c c' result h.1
      (subst (λ (s : Stream). KeepsRow q (EndsSo q text Means (world d o e c) (world d' o s c')) (world d o e c) (world d' o s c') result) (sym h.2)
      (subst (λ (r : Ended). KeepsRow q (EndsSo q text Means (world d o e c) (world d' o e c')) (world d o e c) (world d' o e c') r) (sym h.0)
      (nothing-told one d d' o e c c' none decides.seen decides.asked looks decides.so)))
  keeps one (decided.Planned (Some w)) d d' o o' e e' c c' result none decides looks h =
      text-told one w d d' o o' e e' c c' result none decides.seen decides.asked looks decides.so h
  keeps one (decided.Outside w) d d' o o' e e' c c' result none decides looks h =
      silent d d' o o' e e' c c' result h.0
      (outside-keeps q (LeavesPart text (world d o e c) (world d' o e' c')) (EndsSo q text Means (world d o e c) (world d' o e' c')) w result d d' o e e' c c'
      (rows one (world d o e c) (world d' o e' c')) none decides.seen decides.asked looks decides.so.0 decides.so.1 h.1 h.2)
  keeps one decided.Memory d d' o o' e e' c c' result none decides looks h =
      silent d d' o o' e e' c c' result h.0
      (subst (λ (s : Stream). KeepsRow q (EndsSo q text Means (world d o e c) (world d' o s c')) (world d o e c) (world d' o s c') result) (sym h.1)
      (subst (λ (r : Ended). KeepsRow q (EndsSo q text Means (world d o e c) (world d' o e c')) (world d o e c) (world d' o e c') r) (sym h.2)
      (memory-keeps q (LeavesPart text (world d o e c) (world d' o e c')) (EndsSo q text Means (world d o e c) (world d' o e c')) d d' o e c c'
      (rows one (world d o e c) (world d' o e c')) none decides.seen decides.asked looks)))

  -- A run that decides, and then finishes, prints.
  pub prints : HasOneJob q → (decision : Decision (Option Whole)) (d d' : Disk) (o o' e e' : Stream) (c c' : Watch) (result : Ended) → d.begun ≡ None
      → Decides q (IsTextOf text Means) d d' c c' decision → LooksAlone decision d d' c c' → Finishes q.name q.usage decision o o' e e' result
      → Prints q text Means (world d o e c) (world d' o' e' c') result
  prints one decision d d' o o' e e' c c' result none decides looks h =
      record { same_files = decides.seen.files_stay; keeps = keeps one decision d d' o o' e e' c c' result none decides looks h }
