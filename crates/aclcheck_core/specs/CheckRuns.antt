-- What aclcheck does: it answers the question of its words, and tells the answer on standard output. The files are never
-- written.
use Rattle.std.specs.Prelude.{◌≡◌, ℕ, Bool, true, false, List, Option, None, Some, Result, Ok}
use Rattle.acl_text.specs.declared.faults.Fault.{Fault}
use Rattle.acl_host.specs.declared.days.Day.{Day}
use Rattle.acl_host.specs.Files.{File}
use Rattle.acl_options.specs.CheckCommands.{CheckRequest, AskPolicy, AskText}
use Rattle.acl_options.specs.ComputableChecks.{check_request_of, clock_is_for}
use Rattle.acl_run.specs.Asked.{Asked}
use Rattle.acl_run.specs.Told.{or_day}
use Rattle.acl_run.specs.Worlds.{World}
use Rattle.acl_run.specs.declared.endings.Ended.{Ended}
use Rattle.acl_run.specs.declared.endings.Ended.TheVariants as ended
use Rattle.acl_run.specs.declared.endings.Which.TheVariants as which
use Rattle.acl_run.specs.Printing.{Prints}
use Rattle.aclcheck_core.specs.CheckAnswers.{AsksPolicyOf, AsksSection, CheckAnswer, OfPolicy, OfSection, answer_text}
use Rattle.aclcheck_core.specs.PolicyAnswers.{SectionsAnswer}
use Rattle.aclcheck_core.specs.FaultLines.{program_name, usage_line}

-- ---- the answer

-- Its lines go out in one write, also where there are none.
abbrev pub told_text : CheckAnswer → Option (List ℕ)
told_text answer = Some (answer_text answer)

-- What is so of it: where a target of a policy has no slip, what is told of it is what its section does.
abbrev pub JoinsSections : CheckAnswer → Type 0
JoinsSections (OfPolicy answer) = SectionsAnswer answer
JoinsSections (OfSection at o) = Unit {0}

-- ---- the job of the words

-- The answer to a question, or the first fault: none where there is no question. A section of a file is asked on no day.
abbrev pub IsJobOf : Option CheckRequest → Day → List File → Option (Result CheckAnswer Fault) → Type 0
IsJobOf None day files None = Unit {0}
IsJobOf None day files (Some answer) = ⊥
IsJobOf (Some request) day files None = ⊥
IsJobOf (Some (AskPolicy inputs packet)) day files (Some answer) =
    AsksPolicyOf inputs packet (or_day inputs.date day) files answer
IsJobOf (Some (AskText at packet)) day files (Some answer) = AsksSection at packet files answer

abbrev pub asked_of : Option CheckRequest → Asked CheckRequest CheckAnswer
asked_of request = record {
  name = program_name;
  usage = usage_line;
  options = request;
  asks_clock = clock_is_for request;
  is_job = IsJobOf request;
}

-- What the words ask of aclcheck.
abbrev pub asked : List (List ℕ) → Asked CheckRequest CheckAnswer
asked words = asked_of (check_request_of words)

-- ---- the run

abbrev pub is_of_policy : Option CheckRequest → Bool
is_of_policy None = false
is_of_policy (Some (AskPolicy inputs packet)) = true
is_of_policy (Some (AskText at packet)) = false

-- Whatever the ending, it is that of a run which writes no file and tells one text; and a listing fails only where a
-- policy is asked, since the folder of naming files is listed for a policy alone.
pub record RunsCheck (words : List (List ℕ)) (old new : World) (result : Ended) : Type 0 where
  pub listed : result ≡ ended.Outside which.List → is_of_policy (check_request_of words) ≡ true
  pub prints : Prints (asked words) told_text JoinsSections old new result
