-- What the endings of a run mean that writes no file: it looks, and tells one text on standard output, or nothing.
use Rattle.std.specs.Prelude.{◌≡◌, ℕ, List, Option, None, Some, Result, Ok, Err}
use Rattle.acl_text.specs.declared.faults.Fault.{Fault}
use Rattle.acl_host.specs.declared.days.Day.{Day}
use Rattle.acl_host.specs.Files.{File, BothTell}
use Rattle.acl_host.specs.Outside.{AddsFront}
use Rattle.acl_run.specs.Asked.{Asked}
use Rattle.acl_run.specs.Endings.{EndsAsking, EndsDone, EndsLooking, EndsRejected, EndsReporting, EndsTelling, EndsUsage, EndsWanting, KeepsRow}
use Rattle.acl_run.specs.Told.{Got, Untouched}
use Rattle.acl_run.specs.Worlds.{Stream, World}
use Rattle.acl_run.specs.declared.endings.Ended.{Ended}
use Rattle.acl_run.specs.declared.endings.Ended.TheVariants as ended
use Rattle.acl_run.specs.declared.endings.Which.{Which}
use Rattle.acl_run.specs.declared.endings.Which.TheVariants as which

-- ---- what is told

-- The whole text stands on standard output. Where there is nothing to tell, no call was made.
abbrev pub TellsWhole : Option (List ℕ) → Stream → Stream → Type 0
TellsWhole None old new = new ≡ old
TellsWhole (Some text) old new = Got text old.told new.told

-- A front of the text stands there.
abbrev pub TellsFront : Option (List ℕ) → Stream → Stream → Type 0
TellsFront None old new = new.told ≡ old.told
TellsFront (Some text) old new = BothTell old.told new.told (AddsFront text)

-- ---- what a program's work leaves

-- A program answers its words; `text` is what it tells of an answer, and `Means` what is so of it.
pub record IsPrinted {O A : Type 0} (q : Asked O A) (text : A → Option (List ℕ)) (Means : A → Type 0) (old new : World)
    (day : Day) (files : List File) (answer : A) : Type 0 where
  pub job : q.is_job day files (Some (Ok answer))
  pub told : TellsWhole (text answer) old.out new.out
  pub means : Means answer

abbrev pub Headline : {O A : Type 0} → Asked O A → (A → Option (List ℕ)) → (A → Type 0) → World → World → Day
    → List File → Type 0
Headline {A = A} q text Means old new day files = (answer : A) × IsPrinted q text Means old new day files answer

-- Standard output failed.
abbrev pub LeavesFront : {O A : Type 0} → Asked O A → (A → Option (List ℕ)) → World → World → Day → List File → Type 0
LeavesFront {A = A} q text old new day files = (answer : A) × q.is_job day files (Some (Ok answer))
    × TellsFront (text answer) old.out new.out

-- Memory was wanted.
abbrev pub LeavesPart : {A : Type 0} → (A → Option (List ℕ)) → World → World → Option (Result A Fault) → List File
    → Type 0
LeavesPart text old new None files = Untouched old new
LeavesPart text old new (Some (Err fault)) files = Untouched old new
LeavesPart text old new (Some (Ok answer)) files =
    (new.disk.files ≡ old.disk.files) × TellsFront (text answer) old.out new.out

-- ---- the table

abbrev pub EndsOutside : {O A : Type 0} → Asked O A → (A → Option (List ℕ)) → World → World → Which → Type 0
EndsOutside q text old new which.List = EndsLooking q which.List old new
EndsOutside q text old new which.Read = EndsLooking q which.Read old new
EndsOutside q text old new which.Write = ⊥
EndsOutside q text old new which.Out = EndsReporting q (LeavesFront q text old new) old new
EndsOutside q text old new which.Err = EndsTelling q old new
EndsOutside q text old new which.Clock = EndsAsking q old new

abbrev pub EndsSo : {O A : Type 0} → Asked O A → (A → Option (List ℕ)) → (A → Type 0) → World → World → Ended → Type 0
EndsSo q text Means old new ended.Done = EndsDone q (Headline q text Means old new) old new
EndsSo q text Means old new ended.Usage = EndsUsage q old new
EndsSo q text Means old new (ended.Rejected fault) = EndsRejected q fault old new
EndsSo q text Means old new (ended.Outside w) = EndsOutside q text old new w
EndsSo q text Means old new ended.Memory = EndsWanting q (LeavesPart text old new) old new

-- Whatever the ending, the files are as they were, and the ending has its row.
pub record Prints {O A : Type 0} (q : Asked O A) (text : A → Option (List ℕ)) (Means : A → Type 0) (old new : World)
    (result : Ended) : Type 0 where
  pub same_files : new.disk.files ≡ old.disk.files
  pub keeps : KeepsRow q (EndsSo q text Means old new) old new result
