-- The job of the words of acltool is one, and the answers of its commands are its own.
use Rattle.std.specs.Prelude.{◌≤◌, IsSomeAnd, codes}
use Rattle.std.proofs.Common.{◌≡◌, ℕ, List, Option, None, Some, Result, Ok, Err, IfSome, not, is_some, refl, ap, sym, subst, ◌∙◌}
use Rattle.acl_text.specs.declared.faults.Fault.{Fault}
use Rattle.acl_text.specs.declared.wholes.Whole.{Whole}
use Rattle.acl_host.specs.declared.days.Day.{Day}
use Rattle.acl_host.specs.Files.{File}
use Rattle.acl_filters.specs.FilterRequests.{requests_of}
use Rattle.acl_load.specs.declared.load_faults.LoadFault.{LoadFault}
use Rattle.acl_load.specs.declared.load_faults.LoadFault.TheVariants as loads
use Rattle.acl_options.specs.ToolCommands.{AsksForTool, ToolRequest, Speedway, Dead, Standard, standard}
use Rattle.acl_options.specs.ComputableTools.{asks_clock_for, date_for, tool_asks_clock, tool_request_of}
use Rattle.acl_options.specs.Commands.{IsCount, value_in}
use Rattle.acl_run.specs.Told.{or_day}
use Rattle.acl_run.proofs.DecidingLaws.{IsJobFor}
use Rattle.acl_run.proofs.Rows.{HasOneJob}
use Rattle.acl_run.specs.Finishing.{IsTextOf}
use Rattle.acl_run.specs.PolicyAnswers.{Makes}
use Rattle.acl_run.proofs.PolicyAnswersLaws.{one-policy-answer}
use Rattle.acltool_core.specs.RestorePlans.{Restores, restores_slip}
use Rattle.acltool_core.specs.RestorePlans as restores
use Rattle.acltool_core.specs.DeadLaws.{DeadAnswersAreOne}
use Rattle.acltool_core.specs.TermAnswers.{AnswersDead}
use Rattle.acltool_core.specs.ListPlans.{Lists, lists_slip}
use Rattle.acltool_core.specs.ListPlans as lists
use Rattle.acltool_core.specs.AnsweringSteps.{IsAskable}
use Rattle.acltool_core.specs.ToolRuns.{Answers, AnswersAs, IsJobOf, MeansAnswer, Restored, Decided, Listed, ToolAnswer, answer_as, asked, told_text}

-- ---- one job

same-as : {A : Type 0} (wrap : A → ToolAnswer) (Own : List File → Result A Fault → Type 0) (files : List File)
    → ((a b : Result A Fault) → Own files a → Own files b → a ≡ b) → (a b : Result ToolAnswer Fault) → AnswersAs wrap Own files a
    → AnswersAs wrap Own files b → a ≡ b
same-as wrap Own files one a b p q = p.2 ∙ ap (answer_as wrap) (one p.0 q.0 p.1 q.1) ∙ sym q.2

same-answer : DeadAnswersAreOne → (r : ToolRequest) (today : Day) (files : List File) (a b : Result ToolAnswer Fault) → Answers r today files a
    → Answers r today files b → a ≡ b
same-answer dead (Speedway inputs family) today files =
    same-as Restored (Restores inputs family today) files
    (one-policy-answer inputs.definitions inputs.policy (λ l. restores_slip family today (requests_of l)) (restores.plan_of family today) files)
same-answer dead (Dead inputs) today files = same-as Decided (AnswersDead inputs today) files (dead inputs today files)
same-answer dead (Standard inputs first) today files =
    same-as Listed (Lists inputs first today) files
    (one-policy-answer inputs.definitions inputs.policy (λ l. lists_slip first today (requests_of l)) (lists.plan_of first today) files)

same-job : DeadAnswersAreOne → (r : Option ToolRequest) (day : Day) (files : List File) (a b : Option (Result ToolAnswer Fault)) → IsJobOf r day files a → IsJobOf r day files b → a ≡ b
same-job dead None day files None None p q = refl
same-job dead None day files None (Some b) p q = absurd q
same-job dead None day files (Some a) b p q = absurd p
same-job dead (Some r) day files None b p q = absurd p
same-job dead (Some r) day files (Some a) None p q = absurd q
same-job dead (Some r) day files (Some a) (Some b) p q = ap Some (same-answer dead r (or_day (date_for r) day) files a b p q)

no-job : (words : List (List ℕ)) (day : Day) (files : List File) → tool_request_of words ≡ None → IsJobOf (tool_request_of words) day files None
no-job words day files e = subst (λ (r : Option ToolRequest). IsJobOf r day files None) (sym e) tt

pub one : DeadAnswersAreOne → (words : List (List ℕ)) → HasOneJob (asked words)
one dead words = record { same = same-job dead (tool_request_of words); none = λ e day files. no-job words day files e }

-- ---- the job of a request

pub asks-as : (words : List (List ℕ)) (r : ToolRequest) → tool_request_of words ≡ Some r → not (is_some (date_for r)) ≡ tool_asks_clock words
asks-as words r e = sym (ap asks_clock_for e)

pub answers-job : (words : List (List ℕ)) (r : ToolRequest) → tool_request_of words ≡ Some r → IsJobFor (asked words) (date_for r) (Answers r)
answers-job words r e = λ day files answer is. subst (λ (w : Option ToolRequest). IsJobOf w day files (Some answer)) (sym e) is

-- ---- what a command makes

pub made-as : {A : Type 0} (wrap : A → ToolAnswer) (Own : List File → Result A Fault → Type 0) (text : A → Option (List ℕ)) (Means : A → Type 0)
    → ((x : A) (work : Option Whole) → IsTextOf text Means x work → IsTextOf told_text MeansAnswer (wrap x) work)
    → (told : Option (List File)) (r : Result (Option Whole) LoadFault) → Makes Own (IsTextOf text Means) told r
    → Makes (AnswersAs wrap Own) (IsTextOf told_text MeansAnswer) told r
made-as wrap Own text Means ready None (Ok work) h = tt
made-as wrap Own text Means ready (Some files) (Ok work) h = (wrap h.0, (Ok h.0, h.1, refl), ready h.0 work h.2)
made-as wrap Own text Means ready None (Err e) h = tt
made-as wrap Own text Means ready (Some files) (Err (loads.Fault fault)) h = (Err fault, h, refl)
made-as wrap Own text Means ready (Some files) (Err loads.List) h = tt
made-as wrap Own text Means ready (Some files) (Err loads.Read) h = tt
made-as wrap Own text Means ready (Some files) (Err loads.Memory) h = tt

-- ---- what words ask for

first-number : (value : Option (List ℕ)) (first : ℕ) → IsSomeAnd value (IsCount 99 first) → 1 ≤ first
first-number None first h = absurd h
first-number (Some text) first h = h.from_one

pub askable : (words : List (List ℕ)) (r : ToolRequest) → AsksForTool words r → IsAskable r
askable words (Speedway inputs family) a = tt
askable words (Dead inputs) a = tt
askable words (Standard inputs first) a = first-number (value_in standard a.behind (codes "first_number")) first a.asks.first_named
