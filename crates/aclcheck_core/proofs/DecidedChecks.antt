-- What deciding gives, of a policy and of a section of a file; and that a question has one answer.
use Rattle.std.proofs.Common.{◌≡◌, ℤ, pos, Bool, false, not, is_some, List, Option, None, Some, Result, Ok, Err, IfSome, refl, ap, sym, subst, le_refl}
use Rattle.std.specs.Prelude.{IsErrOf}
use Rattle.std.specs.Int.Signed.{le_z_yes}
use Rattle.acl_packet.specs.Packets.{IsPacket}
use Rattle.acl_packet.specs.declared.packets.Packet.{Packet}
use Rattle.acl_text.specs.Output.{Rose}
use Rattle.acl_text.specs.declared.faults.Fault.{Fault}
use Rattle.acl_text.specs.declared.wholes.Whole.{Whole}
use Rattle.acl_host.specs.declared.days.Day.{Day}
use Rattle.acl_host.specs.Files.{File}
use Rattle.acl_load.specs.LoadFaults.{fails_to_list, load_told}
use Rattle.acl_load.specs.declared.load_faults.LoadFault.{LoadFault}
use Rattle.acl_load.specs.declared.load_faults.LoadFault.TheVariants as loads
use Rattle.acl_options.specs.CheckCommands.{CheckRequest, AskPolicy, AskText, FileSection}
use Rattle.acl_options.specs.Commands.{Inputs}
use Rattle.acl_run.specs.Finishing.{IsTextOf}
use Rattle.acl_run.specs.Deciding.{Asks, DecidesPlanned, DecidesSo, FollowsFrom, IsDayFor}
use Rattle.acl_run.specs.Told.{or_day}
use Rattle.acl_run.specs.Worlds.{Disk, Watch}
use Rattle.acl_run.specs.declared.deciding.Decision.{Decision}
use Rattle.acl_run.specs.declared.deciding.Decision.TheVariants as decided
use Rattle.acl_run.specs.declared.endings.Which.{Which}
use Rattle.acl_run.specs.declared.endings.Which.TheVariants as which
use Rattle.acl_run.proofs.DecidingLaws.{decides-fault, decides-planned}
use Rattle.acl_run.proofs.Rows.{HasOneJob}
use Rattle.aclcheck_core.specs.CheckAnswers.{AsksPolicyOf, AsksSection, CheckAnswer, MakesText, OfPolicy, OfSection}
use Rattle.aclcheck_core.specs.CheckLaws.{PolicyAnswersAreOne, SectionAnswersAreOne}
use Rattle.aclcheck_core.proofs.WrittenSections.{sections-answer}
use Rattle.aclcheck_core.specs.CheckRuns.{IsJobOf, JoinsSections, asked_of, told_text}
use Rattle.aclcheck_core.specs.DecidingSteps.{DecidesCheck}

-- ---- the job of the words

one-job : PolicyAnswersAreOne → SectionAnswersAreOne → (request : Option CheckRequest) (day : Day) (files : List File)
    (a b : Option (Result CheckAnswer Fault)) → IsJobOf request day files a → IsJobOf request day files b → a ≡ b
one-job policies sections None day files None None h k = refl
one-job policies sections None day files None (Some y) h k = absurd k
one-job policies sections None day files (Some x) b h k = absurd h
one-job policies sections (Some r) day files None b h k = absurd h
one-job policies sections (Some r) day files (Some x) None h k = absurd k
one-job policies sections (Some (AskPolicy inputs p)) day files (Some x) (Some y) h k = ap Some (policies inputs p (or_day inputs.date day) files x y h k)
one-job policies sections (Some (AskText at p)) day files (Some x) (Some y) h k = ap Some (sections at p files x y h k)

pub one : PolicyAnswersAreOne → SectionAnswersAreOne → (request : Option CheckRequest) → HasOneJob (asked_of request)
one policies sections request = record {
  same = one-job policies sections request;
  none = λ e day files. subst (λ (r : Option CheckRequest). IsJobOf r day files None) (sym e) tt;
}

-- ---- what an answer means

abbrev IsReady : CheckAnswer → Option Whole → Type 0
IsReady = IsTextOf told_text JoinsSections

policy-joins : (inputs : Inputs) (p : Packet) (today : Day) (files : List File) (answer : CheckAnswer) → IsPacket p
    → AsksPolicyOf inputs p today files (Ok answer) → JoinsSections answer
policy-joins inputs p today files (OfPolicy answer) fits h = sections-answer inputs p today files answer fits h
policy-joins inputs p today files (OfSection at o) fits h = tt

section-joins : (at : FileSection) (p : Packet) (files : List File) (answer : CheckAnswer) → AsksSection at p files (Ok answer) → JoinsSections answer
section-joins at p files (OfPolicy answer) h = absurd h
section-joins at p files (OfSection of o) h = tt

ready : (IsAnswer : List File → Result CheckAnswer Fault → Type 0) → ((files : List File) (answer : CheckAnswer) → IsAnswer files (Ok answer) → JoinsSections answer)
    → (told : Option (List File)) (text : Whole) → MakesText IsAnswer told (Ok text)
    → IfSome told (λ files. (answer : CheckAnswer) × IsAnswer files (Ok answer) × IsReady answer (Some text))
ready IsAnswer joins None text h = tt
ready IsAnswer joins (Some files) text h = (h.0, h.1, record { text_is = ap Some h.2; means = joins files h.0 h.1 })

-- A fault is one whatever there would have been without it.
same-fault : (e x : LoadFault) → IsErrOf {T = Option Whole} (Err e) x → IsErrOf {T = Whole} (Err e) x
same-fault e x h = subst (λ (y : LoadFault). IsErrOf {T = Whole} (Err e) y) (same h) refl
  where
    same : IsErrOf {T = Option Whole} (Err e) x → e ≡ x
    same h = cc

-- ---- a policy

pub policy-planned : (inputs : Inputs) (p : Packet) (today : Day) (text : Whole) (d : Disk) (c : Watch) → IsPacket p → IsDayFor inputs.date c.day today
    → MakesText (AsksPolicyOf inputs p today) d.files (Ok text)
    → DecidesPlanned (asked_of (Some (AskPolicy inputs p))) IsReady (Some text) d c
policy-planned inputs p today text d c fits is made =
    decides-planned (asked_of (Some (AskPolicy inputs p))) IsReady (AsksPolicyOf inputs p) (AskPolicy inputs p) inputs.date today (Some text) d c refl refl
    (λ day files answer h. h) is (ready (AsksPolicyOf inputs p today) (λ files answer. policy-joins inputs p today files answer fits) d.files text made)

pub policy-fault : (inputs : Inputs) (p : Packet) (today : Day) (d d' : Disk) (c c' : Watch) (e : LoadFault) (decision : Decision (Option Whole))
    → IsDayFor inputs.date c.day today → MakesText (AsksPolicyOf inputs p today) d.files (Err e)
    → (IsErrOf {T = Whole} (Err e) loads.List → Rose d.list_faults d'.list_faults)
    → (IsErrOf {T = Whole} (Err e) loads.Read → Rose d.read_faults d'.read_faults)
    → FollowsFrom e decision → DecidesSo (asked_of (Some (AskPolicy inputs p))) IsReady d d' c c' decision
policy-fault inputs p today d d' c c' e decision is made list read follows =
    decides-fault (asked_of (Some (AskPolicy inputs p))) IsReady (AsksPolicyOf inputs p) (AskPolicy inputs p) inputs.date today d d' c c' e decision refl refl
    (λ day files answer h. h) is made (λ x. list (same-fault e loads.List x)) (λ x. read (same-fault e loads.Read x)) follows

-- ---- a section of a file, on whichever day

some-day : Day
some-day = record { number = pos 0; from_year_1 = le_z_yes tt; to_year_9999 = le_z_yes tt }

pub section-planned : (at : FileSection) (p : Packet) (text : Whole) (d : Disk) (c : Watch) → MakesText (AsksSection at p) d.files (Ok text)
    → DecidesPlanned (asked_of (Some (AskText at p))) IsReady (Some text) d c
section-planned at p text d c made =
    decides-planned (asked_of (Some (AskText at p))) IsReady (λ day. AsksSection at p) (AskText at p) (Some some-day) some-day (Some text) d c refl refl
    (λ day files answer h. h) refl (ready (AsksSection at p) (section-joins at p) d.files text made)

pub section-fault : (at : FileSection) (p : Packet) (d d' : Disk) (c : Watch) (e : LoadFault) (decision : Decision (Option Whole))
    → MakesText (AsksSection at p) d.files (Err e)
    → (IsErrOf {T = Whole} (Err e) loads.List → Rose d.list_faults d'.list_faults)
    → (IsErrOf {T = Whole} (Err e) loads.Read → Rose d.read_faults d'.read_faults)
    → FollowsFrom e decision → DecidesSo (asked_of (Some (AskText at p))) IsReady d d' c c decision
section-fault at p d d' c e decision made list read follows =
    decides-fault (asked_of (Some (AskText at p))) IsReady (λ day. AsksSection at p) (AskText at p) (Some some-day) some-day d d' c c e decision refl refl
    (λ day files answer h. h) refl made (λ x. list (same-fault e loads.List x)) (λ x. read (same-fault e loads.Read x)) follows

pub unasked : (c : Watch) → Asks false c c
unasked c = record { only = record { rests = λ _. refl; day_stays = refl }; faults_grow = le_refl c.faults }

-- A fault that is no failure of a listing is not decided as one.
pub not-listed : (e : LoadFault) (decision : Decision (Option Whole)) → fails_to_list {X = Whole} (Err e) ≡ false → FollowsFrom e decision
    → decision ≡ decided.Outside which.List → ⊥
not-listed e decision listed follows is = by e listed (subst (FollowsFrom e) is follows)
  where
    by : (e : LoadFault) → fails_to_list {X = Whole} (Err e) ≡ false → FollowsFrom {W = Option Whole} e (decided.Outside which.List) → ⊥
    by (loads.Fault fault) n h = h
    by loads.List n h = cc
    by loads.Read n h = cc
    by loads.Memory n h = h

-- What is decided of a question is decided of the words that ask it.
pub of-question : (request known : Option CheckRequest) (d d' : Disk) (c c' : Watch) (decision : Decision (Option Whole)) → request ≡ known
    → DecidesCheck known d d' c c' decision → DecidesCheck request d d' c c' decision
of-question request known d d' c c' decision is h = subst (λ r. DecidesCheck r d d' c c' decision) (sym is) h
