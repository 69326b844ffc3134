-- The rows of the endings that every program has, from what deciding and telling give.
use Rattle.std.proofs.Common.{◌≡◌, ℕ, inl, inr, List, [], Option, None, Some, Result, Ok, Err, IsSome, refl, sym, subst, ◌∙◌, le_refl, arith}
use Rattle.std.proofs.lemmas.Bool.{false≢true}
use Rattle.acl_text.specs.declared.faults.Fault.{Fault}
use Rattle.acl_host.specs.declared.days.Day.{Day}
use Rattle.acl_host.specs.Files.{File}
use Rattle.acl_run.specs.Asked.{Asked}
use Rattle.acl_run.specs.Endings.{EndsAsAsked, EndsAsking, EndsDone, EndsLooking, EndsRejected, EndsTelling, EndsUsage, EndsWanting, IsEnding, IsRefusalLine, KeepsRow}
use Rattle.acl_run.specs.Failures.{FailedAlone, NoneFailed, NoneRose, RoseAt}
use Rattle.acl_run.specs.Lines.{outside_line}
use Rattle.acl_run.specs.Deciding.{Asks, DecidesRefused, OnlySeen, RoseLooking}
use Rattle.acl_run.specs.Telling.{Refuses, RefusesSo, TriesLine}
use Rattle.acl_run.specs.Told.{Got, Untouched, WhereTold}
use Rattle.acl_run.specs.Worlds.{Disk, DiskCountsGrow, Stream, StreamCountsGrow, Watch, World, world, disk}
use Rattle.acl_run.specs.declared.endings.Ended.{Ended}
use Rattle.acl_run.specs.declared.endings.Ended.TheVariants as ended
use Rattle.acl_run.specs.declared.endings.Which.{Which}
use Rattle.acl_run.specs.declared.endings.Which.TheVariants as which
use Rattle.acl_run.proofs.FaultCounts.{alone-behind, refused-alone, told-alone}
use Rattle.acl_run.proofs.ToldLaws.{told-given, told-goes-on, where-told}
use Rattle.acl_run.proofs.TriedLines.{no-front}

-- ---- completeness

pub no-options : {O : Type 0} (o : Option O) → o ≡ None → IsSome o → ⊥
no-options None e h = false≢true h
no-options (Some x) e h = cc

-- A job has one answer, and it is none where the words are no command line.
pub record HasOneJob {O A : Type 0} (q : Asked O A) : Type 0 where
  pub same : (day : Day) (files : List File) (a b : Option (Result A Fault)) → q.is_job day files a → q.is_job day files b → a ≡ b
  pub none : q.options ≡ None → (day : Day) (files : List File) → q.is_job day files None

-- The ending is the one that the job asks for, whatever it is.
abbrev EndsJob : {O A : Type 0} → Asked O A → Ended → Day → List File → Type 0
EndsJob {A = A} q result day files = (job : Option (Result A Fault)) → q.is_job day files job → IsEnding job result

memory-fits : {A : Type 0} (job : Option (Result A Fault)) → IsEnding job ended.Memory
memory-fits None = inr refl
memory-fits (Some (Ok plan)) = inr refl
memory-fits (Some (Err fault)) = inr refl

job-fits : {O A : Type 0} (q : Asked O A) (one : HasOneJob q) (day : Day) (files : List File) (job : Option (Result A Fault)) (result : Ended)
    → q.is_job day files job → IsEnding job result → EndsJob q result day files
job-fits {A = A} q one day files job result is ends = λ other h.
    subst (λ (j : Option (Result A Fault)). IsEnding j result) (one.same day files job other is h) ends

pub complete-done : {O A : Type 0} (q : Asked O A) (Headline : Day → List File → Type 0) (old new : World) → HasOneJob q
    → ((day : Day) (files : List File) → Headline day files → (plan : A) × q.is_job day files (Some (Ok plan)))
    → EndsDone q Headline old new → EndsAsAsked q old ended.Done
complete-done q Headline old new one plans e = record {
  usage = λ none. absurd (no-options q.options none e.accepted);
  job = where-told q.asks_clock old.clock old.disk.files (EndsJob q ended.Done)
      (told-goes-on q.asks_clock old.clock old.disk.files Headline (EndsJob q ended.Done)
      (λ day files _ h. let p = plans day files h in job-fits q one day files (Some (Ok p.0)) ended.Done p.1 (inl refl)) e.written);
}

pub complete-usage : {O A : Type 0} (q : Asked O A) (old new : World) → HasOneJob q → EndsUsage q old new → EndsAsAsked q old ended.Usage
complete-usage q old new one e = record {
  usage = λ _. inl refl;
  job = told-given q.asks_clock old.clock old.disk.files (EndsJob q ended.Usage)
      (λ day files _. job-fits q one day files None ended.Usage (one.none e.refused day files) (inl refl));
}

pub complete-rejected : {O A : Type 0} (q : Asked O A) (fault : Fault) (old new : World) → HasOneJob q → EndsRejected q fault old new
    → EndsAsAsked q old (ended.Rejected fault)
complete-rejected q fault old new one e = record {
  usage = λ none. absurd (no-options q.options none e.accepted);
  job = where-told q.asks_clock old.clock old.disk.files (EndsJob q (ended.Rejected fault))
      (told-goes-on q.asks_clock old.clock old.disk.files (λ day files. q.is_job day files (Some (Err fault))) (EndsJob q (ended.Rejected fault))
      (λ day files _ h. job-fits q one day files (Some (Err fault)) (ended.Rejected fault) h (inl refl)) e.first);
}

pub complete-memory : {O A : Type 0} (q : Asked O A) (old : World) → EndsAsAsked q old ended.Memory
complete-memory q old = record {
  usage = λ _. inr refl;
  job = told-given q.asks_clock old.clock old.disk.files (EndsJob q ended.Memory) (λ day files _ job is. memory-fits job);
}

-- ---- the table of a program

-- The rows of a program that are those of every program; what is left of a job where nothing was touched; and that a run
-- of which no count rose ended as it was asked.
pub record HasRows {O A : Type 0} (q : Asked O A) (Left : Option (Result A Fault) → List File → Type 0) (old new : World)
    (Row : Ended → Type 0) : Type 0 where
  pub usage : EndsUsage q old new → Row ended.Usage
  pub rejected : (fault : Fault) → EndsRejected q fault old new → Row (ended.Rejected fault)
  pub listing : EndsLooking q which.List old new → Row (ended.Outside which.List)
  pub reading : EndsLooking q which.Read old new → Row (ended.Outside which.Read)
  pub asking : EndsAsking q old new → Row (ended.Outside which.Clock)
  pub telling : EndsTelling q old new → Row (ended.Outside which.Err)
  pub wanting : Untouched old new → EndsWanting q Left old new → Row ended.Memory
  pub nothing : Untouched old new → (job : Option (Result A Fault)) (files : List File) → old.disk.files ≡ Some files → Left job files
  pub completes : (result : Ended) → Row result → NoneRose old new → EndsAsAsked q old result

-- ---- a run that only looked

seen-counts : (d d' : Disk) → OnlySeen d d' → DiskCountsGrow d d'
seen-counts d d' s = record {
  lists = s.lists_grow;
  reads = s.reads_grow;
  writes = omega (arith, s.faults_stay);
  refusals = omega (arith, s.refusals_stay);
}

counts-from : (d s d' : Disk) → OnlySeen d s → DiskCountsGrow s d' → DiskCountsGrow d d'
counts-from d s d' seen h = record {
  lists = omega (arith, seen.lists_grow, h.lists);
  reads = omega (arith, seen.reads_grow, h.reads);
  writes = omega (arith, seen.faults_stay, h.writes);
  refusals = omega (arith, seen.refusals_stay, h.refusals);
}

still : (s : Stream) → StreamCountsGrow s s
still s = record { faults_grow = le_refl s.faults; refusals_grow = le_refl s.refusals }

pub looked : {O A : Type 0} (q : Asked O A) (Row : Ended → Type 0) (d d' : Disk) (o e e' : Stream) (c c' : Watch) (result : Ended) → d.begun ≡ None → OnlySeen d d'
    → Asks q.asks_clock c c' → StreamCountsGrow e e' → FailedAlone result (world d o e c) (world d' o e' c') → Row result
    → (NoneRose (world d o e c) (world d' o e' c') → EndsAsAsked q (world d o e c) result) → KeepsRow q Row (world d o e c) (world d' o e' c') result
looked q Row d d' o e e' c c' result none seen asked counts alone ends complete = record {
  none_begun = seen.begun_stays ∙ none;
  clock = asked.only;
  counts = record { disk_counts = seen-counts d d' seen; out_counts = still o; err_counts = counts; clock_count = asked.faults_grow };
  alone = alone;
  ending = ends;
  complete = complete;
}

-- The same of a program that has the rows.
looked-so : {O A : Type 0} (q : Asked O A) (Left : Option (Result A Fault) → List File → Type 0) (Row : Ended → Type 0) (d d' : Disk) (o e e' : Stream) (c c' : Watch)
    (result : Ended) → HasRows q Left (world d o e c) (world d' o e' c') Row → d.begun ≡ None → OnlySeen d d' → Asks q.asks_clock c c' → StreamCountsGrow e e'
    → FailedAlone result (world d o e c) (world d' o e' c') → Row result → KeepsRow q Row (world d o e c) (world d' o e' c') result
looked-so q Left Row d d' o e e' c c' result rows none seen asked counts alone ends =
    looked q Row d d' o e e' c c' result none seen asked counts alone ends (rows.completes result ends)

pub untouched : (d d' : Disk) (o e e' : Stream) (c c' : Watch) → OnlySeen d d' → Untouched (world d o e c) (world d' o e' c')
untouched d d' o e e' c c' seen = record { same_files = seen.files_stay; same_out = refl }

-- What is left of a job where nothing was touched, whatever it is.
nothing-left : {O A : Type 0} (q : Asked O A) (Left : Option (Result A Fault) → List File → Type 0) (Row : Ended → Type 0) (d d' : Disk) (o e e' : Stream) (c c' : Watch)
    → HasRows q Left (world d o e c) (world d' o e' c') Row → OnlySeen d d'
    → WhereTold q.asks_clock d c (λ day files. (job : Option (Result A Fault)) → q.is_job day files job → Left job files)
nothing-left {A = A} q Left Row d d' o e e' c c' rows seen =
    told-given q.asks_clock c d.files (λ day files. (job : Option (Result A Fault)) → q.is_job day files job → Left job files)
    (λ day files is job _. rows.nothing (untouched d d' o e e' c c' seen) job files is)

-- ---- refusals

refused-so : {O A : Type 0} (q : Asked O A) (Left : Option (Result A Fault) → List File → Type 0) (Row : Ended → Type 0) (line : List ℕ) (asked result : Ended)
    (d d' : Disk) (o e e' : Stream) (c c' : Watch) → HasRows q Left (world d o e c) (world d' o e' c') Row → d.begun ≡ None → OnlySeen d d'
    → Asks q.asks_clock c c' → StreamCountsGrow e e' → FailedAlone result (world d o e c) (world d' o e' c') → IsRefusalLine q (world d o e c) line
    → (Got line e.told e'.told → Row asked) → RefusesSo line asked e e' result → KeepsRow q Row (world d o e c) (world d' o e' c') result
refused-so q Left Row line asked result d d' o e e' c c' rows none seen asks counts alone refusal row (inl h) =
    looked-so q Left Row d d' o e e' c c' result rows none seen asks counts alone (subst Row (sym h.0) (row h.1))
refused-so q Left Row line asked result d d' o e e' c c' rows none seen asks counts alone refusal row (inr (inl h)) =
    let ends : EndsTelling q (world d o e c) (world d' o e' c') =
    record { cause = h.1; untouched = untouched d d' o e e' c c' seen; line = (line, refusal, h.2) } in
    looked-so q Left Row d d' o e e' c c' result rows none seen asks counts alone (subst Row (sym h.0) (rows.telling ends))
refused-so q Left Row line asked result d d' o e e' c c' rows none seen asks counts alone refusal row (inr (inr h)) =
    let ends : EndsWanting q Left (world d o e c) (world d' o e' c') = record {
      cause = inl seen.files_stay;
      words_untouched = λ _. untouched d d' o e e' c c' seen;
      leaves = nothing-left q Left Row d d' o e e' c c' rows seen;
      report = ([], no-front [] o.told);
      line = inr (line, refusal, h.2);
    } in
    looked-so q Left Row d d' o e e' c c' result rows none seen asks counts alone (subst Row (sym h.0) (rows.wanting (untouched d d' o e e' c c' seen) ends))

pub usage-keeps : {O A : Type 0} (q : Asked O A) (Left : Option (Result A Fault) → List File → Type 0) (Row : Ended → Type 0) (line : List ℕ) (result : Ended)
    (d d' : Disk) (o e e' : Stream) (c c' : Watch) → HasRows q Left (world d o e c) (world d' o e' c') Row → d.begun ≡ None → OnlySeen d d'
    → Asks q.asks_clock c c' → ((o e : Stream) → NoneFailed (world d o e c) (world d' o e c')) → (q.options ≡ None) × (d' ≡ d) → line ≡ q.usage
    → Refuses line ended.Usage e e' result → KeepsRow q Row (world d o e c) (world d' o e' c') result
usage-keeps q Left Row line result d d' o e e' c c' rows none seen asked alone refused is h =
    refused-so q Left Row line ended.Usage result d d' o e e' c c' rows none seen asked h.counts
    (alone-behind result (world d o e c) (world d' o e c') (world d' o e' c') (alone o e) (refused-alone line ended.Usage result d' o e e' c' (λ n. n) h.so))
    (inl (refused.0, is))
    (λ got. rows.usage (record {
      refused = refused.0;
      untouched = untouched d d' o e e' c c' seen;
      same_disk = refused.1;
      line = subst (λ t. Got t e.told e'.told) is got;
    })) h.so

pub fault-keeps : {O A : Type 0} (q : Asked O A) (Left : Option (Result A Fault) → List File → Type 0) (Row : Ended → Type 0) (fault : Fault) (line : List ℕ)
    (result : Ended) (d d' : Disk) (o e e' : Stream) (c c' : Watch) → HasRows q Left (world d o e c) (world d' o e' c') Row → d.begun ≡ None → OnlySeen d d'
    → Asks q.asks_clock c c' → ((o e : Stream) → NoneFailed (world d o e c) (world d' o e c')) → DecidesRefused q fault line d c
    → Refuses line (ended.Rejected fault) e e' result → KeepsRow q Row (world d o e c) (world d' o e' c') result
fault-keeps q Left Row fault line result d d' o e e' c c' rows none seen asked alone refused h =
    refused-so q Left Row line (ended.Rejected fault) result d d' o e e' c c' rows none seen asked h.counts
    (alone-behind result (world d o e c) (world d' o e c') (world d' o e' c') (alone o e) (refused-alone line (ended.Rejected fault) result d' o e e' c' (λ n. n) h.so))
    (inr (refused.accepted, (fault, refused.line_is, refused.first)))
    (λ got. rows.rejected fault (record {
      accepted = refused.accepted;
      first = refused.first;
      untouched = untouched d d' o e e' c c' seen;
      line = subst (λ t. Got t e.told e'.told) refused.line_is got;
    })) h.so

-- ---- failures before anything was written

pub looking-row : {O A : Type 0} (q : Asked O A) (w : Which) (d d' : Disk) (o e e' : Stream) (c c' : Watch) → OnlySeen d d' → IsSome q.options
    → RoseAt w (world d o e c) (world d' o e' c') → TriesLine (outside_line q.name w) e e' → EndsLooking q w (world d o e c) (world d' o e' c')
looking-row q w d d' o e e' c c' seen accepted rose told = record {
  cause = rose;
  accepted = accepted;
  untouched = untouched d d' o e e' c c' seen;
  line = told.tried;
}

looking-so : {O A : Type 0} (q : Asked O A) (Left : Option (Result A Fault) → List File → Type 0) (Row : Ended → Type 0) (w : Which) (d d' : Disk) (o e e' : Stream)
    (c c' : Watch) → HasRows q Left (world d o e c) (world d' o e' c') Row → OnlySeen d d' → IsSome q.options → RoseLooking q.asks_clock w d d' c c'
    → TriesLine (outside_line q.name w) e e' → Row (ended.Outside w)
looking-so q Left Row which.List d d' o e e' c c' rows seen accepted rose told = rows.listing (looking-row q which.List d d' o e e' c c' seen accepted rose told)
looking-so q Left Row which.Read d d' o e e' c c' rows seen accepted rose told = rows.reading (looking-row q which.Read d d' o e e' c c' seen accepted rose told)
looking-so q Left Row which.Write d d' o e e' c c' rows seen accepted rose told = absurd rose
looking-so q Left Row which.Out d d' o e e' c c' rows seen accepted rose told = absurd rose
looking-so q Left Row which.Err d d' o e e' c c' rows seen accepted rose told = absurd rose
looking-so q Left Row which.Clock d d' o e e' c c' rows seen accepted rose told =
    rows.asking (record { asked = rose.0; same_disk = rose.2; looking = looking-row q which.Clock d d' o e e' c c' seen accepted rose.1 told })

pub outside-keeps : {O A : Type 0} (q : Asked O A) (Left : Option (Result A Fault) → List File → Type 0) (Row : Ended → Type 0) (w : Which) (result : Ended)
    (d d' : Disk) (o e e' : Stream) (c c' : Watch) → HasRows q Left (world d o e c) (world d' o e' c') Row → d.begun ≡ None → OnlySeen d d'
    → Asks q.asks_clock c c' → ((o e : Stream) → FailedAlone (ended.Outside w) (world d o e c) (world d' o e c')) → IsSome q.options
    → RoseLooking q.asks_clock w d d' c c' → TriesLine (outside_line q.name w) e e' → result ≡ ended.Outside w
    → KeepsRow q Row (world d o e c) (world d' o e' c') result
outside-keeps q Left Row w result d d' o e e' c c' rows none seen asked alone accepted rose told is =
    looked-so q Left Row d d' o e e' c c' result rows none seen asked told.counts (told-alone w result d d' o e e' c c' (alone o e) is)
    (subst Row (sym is) (looking-so q Left Row w d d' o e e' c c' rows seen accepted rose told))

-- ---- want of memory before anything was written

pub memory-keeps : {O A : Type 0} (q : Asked O A) (Left : Option (Result A Fault) → List File → Type 0) (Row : Ended → Type 0) (d d' : Disk) (o e : Stream)
    (c c' : Watch) → HasRows q Left (world d o e c) (world d' o e c') Row → d.begun ≡ None → OnlySeen d d' → Asks q.asks_clock c c'
    → ((o e : Stream) → NoneFailed (world d o e c) (world d' o e c')) → KeepsRow q Row (world d o e c) (world d' o e c') ended.Memory
memory-keeps q Left Row d d' o e c c' rows none seen asked alone =
    let ends : EndsWanting q Left (world d o e c) (world d' o e c') = record {
      cause = inl seen.files_stay;
      words_untouched = λ _. untouched d d' o e e c c' seen;
      leaves = nothing-left q Left Row d d' o e e c c' rows seen;
      report = ([], no-front [] o.told);
      line = inl refl;
    } in
    looked-so q Left Row d d' o e e c c' ended.Memory rows none seen asked (still e) (alone o e) (rows.wanting (untouched d d' o e e c c' seen) ends)

-- ---- a program's own work

-- A run that looked, and then did what it was to do.
pub worked : {O A : Type 0} (q : Asked O A) (Left : Option (Result A Fault) → List File → Type 0) (Row : Ended → Type 0) (d s d' : Disk) (o o' e e' : Stream)
    (c c' : Watch) (result : Ended) → HasRows q Left (world d o e c) (world d' o' e' c') Row → d'.begun ≡ None → OnlySeen d s → Asks q.asks_clock c c'
    → DiskCountsGrow s d' → StreamCountsGrow o o' → StreamCountsGrow e e' → ((o e : Stream) → NoneFailed (world d o e c) (world s o e c'))
    → FailedAlone result (world s o e c') (world d' o' e' c') → Row result → KeepsRow q Row (world d o e c) (world d' o' e' c') result
worked q Left Row d s d' o o' e e' c c' result rows none seen asked disk out err looks alone ends = record {
  none_begun = none;
  clock = asked.only;
  counts = record { disk_counts = counts-from d s d' seen disk; out_counts = out; err_counts = err; clock_count = asked.faults_grow };
  alone = alone-behind result (world d o e c) (world s o e c') (world d' o' e' c') (looks o e) alone;
  ending = ends;
  complete = rows.completes result ends;
}
