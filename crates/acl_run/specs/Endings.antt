-- What the endings of a run mean that every program has: a record for each. What a program's own work leaves is said by
-- the program.
use Rattle.std.specs.Prelude.{◌≡◌, ℕ, ◌⊎◌, Bool, true, false, List, Option, None, Some, Result, Ok, Err, IsSome}
use Rattle.acl_text.specs.declared.faults.Fault.{Fault}
use Rattle.acl_host.specs.declared.days.Day.{Day}
use Rattle.acl_host.specs.Files.{File, BothTell}
use Rattle.acl_host.specs.Outside.{AddsFront}
use Rattle.acl_load.specs.FaultLines.{fault_line}
use Rattle.acl_run.specs.Asked.{Asked}
use Rattle.acl_run.specs.Failures.{FailedAlone, NoneRose, RefusedMemory, RoseAt}
use Rattle.acl_run.specs.Lines.{outside_line}
use Rattle.acl_run.specs.Told.{Got, OnItsDay, Tried, Untouched, WhereTold}
use Rattle.acl_run.specs.Worlds.{CountsGrow, Watch, World}
use Rattle.acl_run.specs.declared.endings.Ended.{Ended}
use Rattle.acl_run.specs.declared.endings.Ended.TheVariants as ended
use Rattle.acl_run.specs.declared.endings.Which.{Which}
use Rattle.acl_run.specs.declared.endings.Which.TheVariants as which

-- ---- nothing is begun

pub record EndsUsage {O A : Type 0} (q : Asked O A) (old new : World) : Type 0 where
  pub refused : q.options ≡ None
  pub untouched : Untouched old new
  pub same_disk : new.disk ≡ old.disk
  pub line : Got q.usage old.err.told new.err.told

pub record EndsRejected {O A : Type 0} (q : Asked O A) (fault : Fault) (old new : World) : Type 0 where
  pub accepted : IsSome q.options
  pub first : OnItsDay q.asks_clock old.disk old.clock (λ day files. q.is_job day files (Some (Err fault)))
  pub untouched : Untouched old new
  pub line : Got (fault_line fault) old.err.told new.err.told

-- A folder was not listed, a file not read, or the clock told no day.
pub record EndsLooking {O A : Type 0} (q : Asked O A) (w : Which) (old new : World) : Type 0 where
  pub cause : RoseAt w old new
  pub accepted : IsSome q.options
  pub untouched : Untouched old new
  pub line : Tried (outside_line q.name w) old.err new.err

-- Only a clock that is asked can fail. It is asked before the tree is looked at.
pub record EndsAsking {O A : Type 0} (q : Asked O A) (old new : World) : Type 0 where
  pub asked : q.asks_clock ≡ true
  pub same_disk : new.disk ≡ old.disk
  pub looking : EndsLooking q which.Clock old new

-- The line on standard error of a run that is refused.
abbrev pub IsRefusalLine : {O A : Type 0} → Asked O A → World → List ℕ → Type 0
IsRefusalLine q old line = ((q.options ≡ None) × (line ≡ q.usage))
    ⊎ (IsSome q.options × ((fault : Fault) × (line ≡ fault_line fault)
    × OnItsDay q.asks_clock old.disk old.clock (λ day files. q.is_job day files (Some (Err fault)))))

-- The line of a refusal was not written whole.
pub record EndsTelling {O A : Type 0} (q : Asked O A) (old new : World) : Type 0 where
  pub cause : RoseAt which.Err old new
  pub untouched : Untouched old new
  pub line : (line : List ℕ) × IsRefusalLine q old line × BothTell old.err.told new.err.told (AddsFront line)

-- ---- the job is done, or cut off

-- `Headline` is what the program's own work leaves, on the day of the run.
pub record EndsDone {O A : Type 0} (q : Asked O A) (Headline : Day → List File → Type 0) (old new : World)
    : Type 0 where
  pub accepted : IsSome q.options
  pub written : OnItsDay q.asks_clock old.disk old.clock Headline
  pub report : (text : List ℕ) × Got text old.out.told new.out.told
  pub nothing_on_err : new.err.told ≡ old.err.told

-- Standard output failed. `Left` is what then stands there.
pub record EndsReporting {O A : Type 0} (q : Asked O A) (Left : Day → List File → Type 0) (old new : World)
    : Type 0 where
  pub cause : RoseAt which.Out old new
  pub accepted : IsSome q.options
  pub written : OnItsDay q.asks_clock old.disk old.clock Left
  pub report : (text : List ℕ) × BothTell old.out.told new.out.told (AddsFront text)
  pub line : Tried (outside_line q.name which.Out) old.err new.err

-- Memory was wanted: for the words, whatever they are, for the job, or for a line. The files are as at entry, unless
-- the tree or standard output refused; standard output got a front of a report, or nothing, whatever the tree tells.
-- `Left` is what stands of a job.
pub record EndsWanting {O A : Type 0} (q : Asked O A) (Left : Option (Result A Fault) → List File → Type 0)
    (old new : World) : Type 0 where
  pub cause : (new.disk.files ≡ old.disk.files) ⊎ RefusedMemory old new
  pub words_untouched : q.options ≡ None → Untouched old new
  pub leaves : WhereTold q.asks_clock old.disk old.clock (λ day files. (job : Option (Result A Fault))
      → q.is_job day files job → Left job files)
  pub report : (text : List ℕ) × BothTell old.out.told new.out.told (AddsFront text)
  pub line : (new.err.told ≡ old.err.told)
      ⊎ ((line : List ℕ) × IsRefusalLine q old line × BothTell old.err.told new.err.told (AddsFront line))

-- ---- whatever the ending

-- The ending that a job asks for, unless memory was wanted.
abbrev pub IsEnding : {A : Type 0} → Option (Result A Fault) → Ended → Type 0
IsEnding None result = (result ≡ ended.Usage) ⊎ (result ≡ ended.Memory)
IsEnding (Some (Ok plan)) result = (result ≡ ended.Done) ⊎ (result ≡ ended.Memory)
IsEnding (Some (Err fault)) result = (result ≡ ended.Rejected fault) ⊎ (result ≡ ended.Memory)

-- The run ended as its words, and its job, ask.
pub record EndsAsAsked {O A : Type 0} (q : Asked O A) (old : World) (result : Ended) : Type 0 where
  pub usage : q.options ≡ None → IsEnding {A = A} None result
  pub job : WhereTold q.asks_clock old.disk old.clock (λ day files. (job : Option (Result A Fault))
      → q.is_job day files job → IsEnding job result)

-- The clock is as at entry where it is not asked, and its day stays.
pub record OnlyAsked (asked : Bool) (old new : Watch) : Type 0 where
  pub rests : asked ≡ false → new ≡ old
  pub day_stays : new.day ≡ old.day

-- What a run keeps, whatever its ending: no path is begun when it returns, the clock is asked only where it has to be, no
-- count falls, no call failed but those that the ending tells of, the ending has its row, and where no count rose it is
-- the one that is asked for.
pub record KeepsRow {O A : Type 0} (q : Asked O A) (Row : Ended → Type 0) (old new : World) (result : Ended)
    : Type 0 where
  pub none_begun : new.disk.begun ≡ None
  pub clock : OnlyAsked q.asks_clock old.clock new.clock
  pub counts : CountsGrow old new
  pub alone : FailedAlone result old new
  pub ending : Row result
  pub complete : NoneRose old new → EndsAsAsked q old result
