-- What a run that prints decides, from the work of its command for the day.
use Rattle.std.proofs.Common.{◌≡◌, Bool, not, is_some, List, Option, None, Some, Result, Ok, Err, IfSome, refl}
use Rattle.std.specs.Result.{IsErrOf}
use Rattle.acl_text.specs.declared.faults.Fault.{Fault}
use Rattle.acl_host.specs.declared.days.Day.{Day}
use Rattle.acl_host.specs.declared.clocks.ClockFault.{ClockFault}
use Rattle.acl_host.specs.Files.{File}
use Rattle.acl_host.specs.Outside.{OnlyListsAndReads, TreeMembers}
use Rattle.acl_load.specs.declared.load_faults.LoadFault.{LoadFault}
use Rattle.acl_load.specs.LoadFaults.{LoadsFiles}
use Rattle.acl_run.specs.Asked.{Asked}
use Rattle.acl_run.specs.Deciding.{Decides, FindsDay, FollowsFrom, LooksAlone, OnlySeen}
use Rattle.acl_run.specs.Worlds.{Disk, Watch, disk}
use Rattle.acl_run.specs.declared.deciding.Decision.{Decision}
use Rattle.acl_run.specs.declared.deciding.Decision.TheVariants as decided
use Rattle.acl_run.proofs.DecidingLaws.{IsJobFor, asked-for, decides-fault, decides-planned}
use Rattle.acl_run.proofs.FaultCounts.{fault-alone, planned-alone}
use Rattle.acl_run.specs.PolicyAnswers.{Makes}

pub only-seen : {S : Type 0} (t : TreeMembers S) (old new : S) → OnlyListsAndReads t old new → OnlySeen (disk t old) (disk t new)
only-seen t old new h = record {
  files_stay = h.looks.files_stay;
  begun_stays = h.looks.begun_stays;
  faults_stay = h.looks.faults_stay;
  refusals_stay = h.looks.refusals_stay;
  lists_grow = h.lists_grow;
  reads_grow = h.reads_grow;
}

module _ {O A W S : Type 0} (q : Asked O A) (IsReady : A → W → Type 0) (Answers : Day → List File → Result A Fault → Type 0)
    (options : O) (date : Option Day) (today : Day) (t : TreeMembers S) (old new : S) (c c' : Watch)
    (is : q.options ≡ Some options) (asks : not (is_some date) ≡ q.asks_clock) (jobs : IsJobFor q date Answers)
    (finds : FindsDay date c c' (Ok today)) where
  -- the command's work is done
  pub work-decided : (work : W) → LoadsFiles {X = W} t old new (Ok work) → Makes (Answers today) IsReady (t.files old) (Ok work)
      → Decides q IsReady (disk t old) (disk t new) c c' (decided.Planned work)
  work-decided work looks makes = record {
    seen = only-seen t old new looks.only;
    asked = asked-for q.asks_clock date c c' (Ok today) asks finds;
    so = decides-planned q IsReady Answers options date today work (disk t old) c is asks jobs finds.gives makes;
  }

  pub work-alone : (work : W) → LoadsFiles {X = W} t old new (Ok work) → LooksAlone (decided.Planned work) (disk t old) (disk t new) c c'
  work-alone work looks =
      planned-alone work (disk t old) (disk t new) c c' (looks.lists_stay refl) (looks.reads_stay refl) looks.only.looks.faults_stay (finds.faults_stay)

  -- there was a fault, or it could not be done
  pub fault-decided : (e : LoadFault) (decision : Decision W) → LoadsFiles {X = W} t old new (Err e) → Makes (Answers today) IsReady (t.files old) (Err e)
      → FollowsFrom e decision → Decides q IsReady (disk t old) (disk t new) c c' decision
  fault-decided e decision looks makes follows = record {
    seen = only-seen t old new looks.only;
    asked = asked-for q.asks_clock date c c' (Ok today) asks finds;
    so = decides-fault q IsReady Answers options date today (disk t old) (disk t new) c c' e decision is asks jobs finds.gives makes
        looks.list_failed looks.read_failed follows;
  }

  pub fault-looks : (e : LoadFault) (decision : Decision W) → LoadsFiles {X = W} t old new (Err e) → FollowsFrom e decision
      → LooksAlone decision (disk t old) (disk t new) c c'
  fault-looks e decision looks follows =
      fault-alone (disk t old) (disk t new) c c' e decision looks.lists_stay looks.reads_stay looks.only.looks.faults_stay finds.faults_stay follows
