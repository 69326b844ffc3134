-- What deciding gives, which only looks: what a run is to do, and the day for which.
use Rattle.std.specs.Prelude.{◌≡◌, ℕ, ◌≤◌, ℤ, Bool, true, List, Option, None, Some, Result, Ok, Err, OnOk, IfSome, IsSome}
use Rattle.acl_text.specs.Output.{Rose}
use Rattle.acl_text.specs.declared.faults.Fault.{Fault}
use Rattle.acl_host.specs.declared.clocks.ClockFault.{ClockFault}
use Rattle.acl_host.specs.declared.days.Day.{Day}
use Rattle.acl_load.specs.declared.load_faults.LoadFault.{LoadFault}
use Rattle.acl_load.specs.declared.load_faults.LoadFault.TheVariants as loads
use Rattle.acl_load.specs.FaultLines.{fault_line}
use Rattle.acl_run.specs.Asked.{Asked}
use Rattle.acl_run.specs.Endings.{OnlyAsked}
use Rattle.acl_run.specs.Failures.{FailedAlone, NoneFailed}
use Rattle.acl_run.specs.Told.{OnItsDay}
use Rattle.acl_run.specs.Worlds.{Disk, Stream, Watch, World, world}
use Rattle.acl_run.specs.declared.deciding.Decision.{Decision}
use Rattle.acl_run.specs.declared.deciding.Decision.TheVariants as decided
use Rattle.acl_run.specs.declared.endings.Ended.TheVariants as ended
use Rattle.acl_run.specs.declared.endings.Which.{Which}
use Rattle.acl_run.specs.declared.endings.Which.TheVariants as which

-- Nothing but the counts of looking changed, and they did not fall.
pub record OnlySeen (old new : Disk) : Type 0 where
  pub files_stay : new.files ≡ old.files
  pub begun_stays : new.begun ≡ old.begun
  pub faults_stay : new.write_faults ≡ old.write_faults
  pub refusals_stay : new.write_refusals ≡ old.write_refusals
  pub lists_grow : old.list_faults ≤ new.list_faults
  pub reads_grow : old.read_faults ≤ new.read_faults

-- A count of the calls that only look rose.
abbrev pub RoseLooking : Bool → Which → Disk → Disk → Watch → Watch → Type 0
RoseLooking asked which.List old new c c' = Rose old.list_faults new.list_faults
RoseLooking asked which.Read old new c c' = Rose old.read_faults new.read_faults
RoseLooking asked which.Write old new c c' = ⊥
RoseLooking asked which.Out old new c c' = ⊥
RoseLooking asked which.Err old new c c' = ⊥
RoseLooking asked which.Clock old new c c' =
    (asked ≡ true) × Rose c.faults c'.faults × (new ≡ old)

pub record DecidesRefused {O A : Type 0} (q : Asked O A) (fault : Fault) (line : List ℕ) (old : Disk)
    (c : Watch) : Type 0 where
  pub accepted : IsSome q.options
  pub first : OnItsDay q.asks_clock old c (λ day files. q.is_job day files (Some (Err fault)))
  pub line_is : line ≡ fault_line fault

-- `IsReady` says what the work has to do with what is to be done.
pub record DecidesPlanned {O A W : Type 0} (q : Asked O A) (IsReady : A → W → Type 0) (work : W) (old : Disk)
    (c : Watch) : Type 0 where
  pub accepted : IsSome q.options
  pub planned : OnItsDay q.asks_clock old c (λ day files. (plan : A)
      × q.is_job day files (Some (Ok plan)) × IsReady plan work)

abbrev pub DecidesSo : {O A W : Type 0} → Asked O A → (A → W → Type 0) → Disk → Disk → Watch → Watch
    → Decision W → Type 0
DecidesSo q IsReady old new c c' decided.Usage = (q.options ≡ None) × (new ≡ old)
DecidesSo q IsReady old new c c' (decided.Refused fault line) = DecidesRefused q fault line.bytes old c
DecidesSo q IsReady old new c c' (decided.Planned work) = DecidesPlanned q IsReady work old c
DecidesSo q IsReady old new c c' (decided.Outside w) =
    IsSome q.options × RoseLooking q.asks_clock w old new c c'
DecidesSo q IsReady old new c c' decided.Memory = Unit {0}

-- What is so of the work, where there is some.
abbrev pub IfPlanned : {W : Type 0} → Decision W → (W → Type 0) → Type 0
IfPlanned (decided.Planned work) P = P work
IfPlanned decision P = Unit {0}

-- What is to be done where there is nothing to write.
abbrev pub FollowsFrom : {W : Type 0} → LoadFault → Decision W → Type 0
FollowsFrom (loads.Fault fault) (decided.Refused told line) =
    (told ≡ fault) × (line.bytes ≡ fault_line fault)
FollowsFrom (loads.Fault fault) decided.Memory = Unit {0}
FollowsFrom loads.List (decided.Outside w) = w ≡ which.List
FollowsFrom loads.Read (decided.Outside w) = w ≡ which.Read
FollowsFrom loads.Memory decided.Memory = Unit {0}
FollowsFrom fault decision = ⊥

-- The clock was asked only where it has to be.
pub record Asks (asked : Bool) (c c' : Watch) : Type 0 where
  pub only : OnlyAsked asked c c'
  pub faults_grow : c.faults ≤ c'.faults

-- No call failed but the one that the decision tells of.
abbrev pub DecidedAlone : {W : Type 0} → Decision W → World → World → Type 0
DecidedAlone (decided.Outside w) old new = FailedAlone (ended.Outside w) old new
DecidedAlone decision old new = NoneFailed old new

-- The same of the tree and the clock, whatever the streams are.
abbrev pub LooksAlone : {W : Type 0} → Decision W → Disk → Disk → Watch → Watch → Type 0
LooksAlone decision d d' c c' =
    (o e : Stream) → DecidedAlone decision (world d o e c) (world d' o e c')

pub record Decides {O A W : Type 0} (q : Asked O A) (IsReady : A → W → Type 0) (old new : Disk) (c c' : Watch)
    (decision : Decision W) : Type 0 where
  pub seen : OnlySeen old new
  pub asked : Asks q.asks_clock c c'
  pub so : DecidesSo q IsReady old new c c' decision

-- The day that the words name, else the one that the clock tells.
abbrev pub IsDayFor : Option Day → Option ℤ → Day → Type 0
IsDayFor (Some date) told day = day ≡ date
IsDayFor None told day = IfSome told (λ n. day.number ≡ n)

-- The clock gives the day, where the words name none; or it fails.
abbrev pub GivesDay : Option Day → Watch → Watch → Result Day ClockFault → Type 0
GivesDay date c c' (Ok day) = IsDayFor date c.day day
GivesDay date c c' (Err e) = (date ≡ None) × Rose c.faults c'.faults

pub record FindsDay (date : Option Day) (c c' : Watch) (result : Result Day ClockFault) : Type 0 where
  pub rests : IsSome date → c' ≡ c
  pub day_stays : c'.day ≡ c.day
  pub faults_grow : c.faults ≤ c'.faults
  pub faults_stay : OnOk result (c'.faults ≡ c.faults)
  pub gives : GivesDay date c c' result
