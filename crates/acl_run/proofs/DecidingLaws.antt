-- What a run is to do, from what its work is for the day.
use Rattle.std.proofs.Common.{◌≡◌, Bool, false, not, List, Option, None, Some, Result, Ok, Err, IfSome, IsSome, is_some, refl, ap, sym, subst, ◌∙◌}
use Rattle.std.specs.Result.{IsErrOf}
use Rattle.std.proofs.lemmas.Bool.{false≢true}
use Rattle.acl_text.specs.declared.faults.Fault.{Fault}
use Rattle.acl_text.specs.Output.{Rose}
use Rattle.acl_host.specs.declared.days.Day.{Day}
use Rattle.acl_host.specs.declared.clocks.ClockFault.{ClockFault}
use Rattle.acl_host.specs.Files.{File}
use Rattle.acl_load.specs.declared.load_faults.LoadFault.{LoadFault}
use Rattle.acl_load.specs.declared.load_faults.LoadFault.TheVariants as loads
use Rattle.acl_load.specs.FaultLines.{fault_line}
use Rattle.acl_load.specs.LoadFaults.{load_told}
use Rattle.acl_run.specs.Asked.{Asked}
use Rattle.acl_run.specs.Deciding.{Asks, DecidesPlanned, DecidesSo, FindsDay, FollowsFrom, IsDayFor, RoseLooking}
use Rattle.acl_run.specs.Told.{OnDay, or_day}
use Rattle.acl_run.specs.Worlds.{Disk, Watch}
use Rattle.acl_run.specs.declared.deciding.Decision.{Decision}
use Rattle.acl_run.specs.declared.deciding.Decision.TheVariants as decided
use Rattle.acl_run.proofs.ToldLaws.{for-day}

-- What the work for a day is: it is the job of the words, for the day that they name, else for the clock's.
abbrev pub IsJobFor : {O A : Type 0} → Asked O A → Option Day → (Day → List File → Result A Fault → Type 0) → Type 0
IsJobFor {A = A} q date IsWork = (day : Day) (files : List File) (answer : Result A Fault)
    → IsWork (or_day date day) files answer → q.is_job day files (Some answer)

pub decides-planned : {O A W : Type 0} (q : Asked O A) (IsReady : A → W → Type 0) (IsWork : Day → List File → Result A Fault → Type 0)
    (options : O) (date : Option Day) (today : Day) (work : W) (d : Disk) (c : Watch) → q.options ≡ Some options → not (is_some date) ≡ q.asks_clock
    → IsJobFor q date IsWork → IsDayFor date c.day today
    → IfSome d.files (λ files. (plan : A) × IsWork today files (Ok plan) × IsReady plan work) → DecidesPlanned q IsReady work d c
decides-planned {A = A} q IsReady IsWork options date today work d c e asks jobs f h = record {
  accepted = ap is_some e;
  planned = for-day d.files date q.asks_clock c today (λ files. (plan : A) × IsWork today files (Ok plan) × IsReady plan work)
      (λ day files. (plan : A) × q.is_job day files (Some (Ok plan)) × IsReady plan work) asks f
      (λ day files is p. (p.0, jobs day files (Ok p.0) (subst (λ (x : Day). IsWork x files (Ok p.0)) (sym is) p.1), p.2)) h;
}

seen-fault : {O A : Type 0} (q : Asked O A) (IsWork : Day → List File → Result A Fault → Type 0) (told : Option (List File)) (date : Option Day) (today : Day)
    (c : Watch) (fault other : Fault) → not (is_some date) ≡ q.asks_clock → IsJobFor q date IsWork → IsDayFor date c.day today → other ≡ fault
    → IfSome told (λ files. IsWork today files (Err fault))
    → IfSome told (λ files. OnDay q.asks_clock c.day (λ day. q.is_job day files (Some (Err other))))
seen-fault q IsWork told date today c fault other asks jobs f same h =
    for-day told date q.asks_clock c today (λ files. IsWork today files (Err fault)) (λ day files. q.is_job day files (Some (Err other))) asks f
    (λ day files is p. jobs day files (Err other)
    (subst (λ (x : Day). IsWork x files (Err other)) (sym is) (subst (λ x. IsWork today files (Err x)) (sym same) p))) h

pub decides-fault : {O A W : Type 0} (q : Asked O A) (IsReady : A → W → Type 0) (IsWork : Day → List File → Result A Fault → Type 0)
    (options : O) (date : Option Day) (today : Day) (old new : Disk) (c c' : Watch) (e : LoadFault) (decision : Decision W) → q.options ≡ Some options
    → not (is_some date) ≡ q.asks_clock → IsJobFor q date IsWork → IsDayFor date c.day today
    → IfSome old.files (λ files. IfSome (load_told e) (λ fault. IsWork today files (Err fault)))
    → (IsErrOf {T = W} (Err e) loads.List → Rose old.list_faults new.list_faults)
    → (IsErrOf {T = W} (Err e) loads.Read → Rose old.read_faults new.read_faults)
    → FollowsFrom e decision → DecidesSo q IsReady old new c c' decision
decides-fault q IsReady IsWork options date today old new c c' (loads.Fault fault) (decided.Refused told line) e asks jobs f m list read h = record {
  accepted = ap is_some e;
  first = seen-fault q IsWork old.files date today c fault told asks jobs f h.0 m;
  line_is = h.1 ∙ ap fault_line (sym h.0);
}
decides-fault q IsReady IsWork options date today old new c c' (loads.Fault fault) decided.Memory e asks jobs f m list read h = tt
decides-fault q IsReady IsWork options date today old new c c' (loads.Fault fault) decided.Usage e asks jobs f m list read h = absurd h
decides-fault q IsReady IsWork options date today old new c c' (loads.Fault fault) (decided.Planned work) e asks jobs f m list read h = absurd h
decides-fault q IsReady IsWork options date today old new c c' (loads.Fault fault) (decided.Outside w) e asks jobs f m list read h = absurd h
decides-fault q IsReady IsWork options date today old new c c' loads.List (decided.Outside w) e asks jobs f m list read h =
    (ap is_some e, subst (λ x. RoseLooking q.asks_clock x old new c c') (sym h) (list refl))
decides-fault q IsReady IsWork options date today old new c c' loads.List decided.Memory e asks jobs f m list read h = absurd h
decides-fault q IsReady IsWork options date today old new c c' loads.List decided.Usage e asks jobs f m list read h = absurd h
decides-fault q IsReady IsWork options date today old new c c' loads.List (decided.Planned work) e asks jobs f m list read h = absurd h
decides-fault q IsReady IsWork options date today old new c c' loads.List (decided.Refused told line) e asks jobs f m list read h = absurd h
decides-fault q IsReady IsWork options date today old new c c' loads.Read (decided.Outside w) e asks jobs f m list read h =
    (ap is_some e, subst (λ x. RoseLooking q.asks_clock x old new c c') (sym h) (read refl))
decides-fault q IsReady IsWork options date today old new c c' loads.Read decided.Memory e asks jobs f m list read h = absurd h
decides-fault q IsReady IsWork options date today old new c c' loads.Read decided.Usage e asks jobs f m list read h = absurd h
decides-fault q IsReady IsWork options date today old new c c' loads.Read (decided.Planned work) e asks jobs f m list read h = absurd h
decides-fault q IsReady IsWork options date today old new c c' loads.Read (decided.Refused told line) e asks jobs f m list read h = absurd h
decides-fault q IsReady IsWork options date today old new c c' loads.Memory decided.Memory e asks jobs f m list read h = tt
decides-fault q IsReady IsWork options date today old new c c' loads.Memory decided.Usage e asks jobs f m list read h = absurd h
decides-fault q IsReady IsWork options date today old new c c' loads.Memory (decided.Planned work) e asks jobs f m list read h = absurd h
decides-fault q IsReady IsWork options date today old new c c' loads.Memory (decided.Refused told line) e asks jobs f m list read h = absurd h
decides-fault q IsReady IsWork options date today old new c c' loads.Memory (decided.Outside w) e asks jobs f m list read h = absurd h

-- ---- the clock

pub asked-for : (asked : Bool) (date : Option Day) (c c' : Watch) (r : Result Day ClockFault) → not (is_some date) ≡ asked → FindsDay date c c' r → Asks asked c c'
asked-for asked date c c' r e h = record {
  only = record { rests = λ no. h.rests (is-named date (e ∙ no)); day_stays = h.day_stays };
  faults_grow = h.faults_grow;
}
  where
    is-named : (date : Option Day) → not (is_some date) ≡ false → IsSome date
    is-named (Some d) n = refl
    is-named None n = absurd (false≢true (sym n))
