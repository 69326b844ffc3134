-- What is told of a run: the files and the day, and what a stream got.
use Rattle.std.specs.Prelude.{◌≡◌, ℕ, ℤ, ◌++◌, Bool, true, false, List, Option, None, Some, option_map, IfSome}
use Rattle.acl_text.specs.Output.{Rose}
use Rattle.acl_host.specs.declared.days.Day.{Day}
use Rattle.acl_host.specs.Files.{File, BothTell}
use Rattle.acl_host.specs.Outside.{AddsFront}
use Rattle.acl_run.specs.Worlds.{Disk, Stream, Watch, World}

-- The clock's day, where it is asked; else whichever day.
abbrev pub WhereDay : Bool → Option ℤ → (Day → Type 0) → Type 0
WhereDay true told P = IfSome told (λ n. (day : Day) → day.number ≡ n → P day)
WhereDay false told P = (day : Day) → P day

-- The tree tells its files, and the clock, where it is asked, its day.
abbrev pub WhereTold : Bool → Disk → Watch → (Day → List File → Type 0) → Type 0
WhereTold asked d c P = IfSome d.files (λ files. WhereDay asked c.day (λ day. P day files))

-- The day of the run: where the clock is asked, the one that it tells, or some one day where it tells none; else
-- whichever day.
abbrev pub OnDay : Bool → Option ℤ → (Day → Type 0) → Type 0
OnDay true (Some n) P = (day : Day) → day.number ≡ n → P day
OnDay true None P = (day : Day) × P day
OnDay false told P = (day : Day) → P day

-- The tree tells its files: then this is so of them and of the day of the run.
abbrev pub OnItsDay : Bool → Disk → Watch → (Day → List File → Type 0) → Type 0
OnItsDay asked d c P = IfSome d.files (λ files. OnDay asked c.day (λ day. P day files))

-- The day that the words name, else the clock's.
abbrev pub or_day : Option Day → Day → Day
or_day (Some date) day = date
or_day None day = day

-- A stream got the text, and nothing else.
abbrev pub Got : List ℕ → Option (List ℕ) → Option (List ℕ) → Type 0
Got text old new = new ≡ option_map (λ (b : List ℕ). b ++ text) old

-- A line was tried on a stream: a front of it stands there, and the whole where no count of the stream rose.
pub record Tried (line : List ℕ) (old new : Stream) : Type 0 where
  pub front : BothTell old.told new.told (AddsFront line)
  pub whole : (Rose old.faults new.faults → ⊥) → (Rose old.refusals new.refusals → ⊥)
      → Got line old.told new.told

-- The files and standard output are as at entry.
pub record Untouched (old new : World) : Type 0 where
  pub same_files : new.disk.files ≡ old.disk.files
  pub same_out : new.out.told ≡ old.out.told
