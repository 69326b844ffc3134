-- What acltool does: the answer to its words, which is told on standard output.
use Rattle.std.specs.Prelude.{◌≡◌, ℕ, List, Option, None, Some, Result, Ok, Err}
use Rattle.acl_text.specs.declared.faults.Fault.{Fault}
use Rattle.acl_host.specs.declared.days.Day.{Day}
use Rattle.acl_host.specs.Files.{File}
use Rattle.acl_options.specs.ToolCommands.{ToolRequest, Speedway, Dead, Standard}
use Rattle.acl_options.specs.ComputableTools.{date_for, tool_asks_clock, tool_request_of}
use Rattle.acl_run.specs.Asked.{Asked}
use Rattle.acl_run.specs.Told.{or_day}
use Rattle.acl_run.specs.Worlds.{World}
use Rattle.acl_run.specs.declared.endings.Ended.{Ended}
use Rattle.acl_run.specs.Printing.{Prints}
use Rattle.acltool_core.specs.RestorePlans.{MeansPlan, RestorePlan, Restores, restored_text}
use Rattle.acltool_core.specs.TermAnswers.{AnswersDead, DeadAnswer, dead_text}
use Rattle.acltool_core.specs.ListPlans.{ListPlan, Lists, MeansPlan as MeansListPlan, listed_text}
use Rattle.acltool_core.specs.ToolLines.{program_name, usage_line}

-- ---- the answer

-- The answer to a command: for `speedway` the filters whose text is for iptables-restore, for `dead` what is decided by
-- each term, for `standard` the filters that become standard lists.
pub data ToolAnswer : Type 0 where
  Restored : RestorePlan → ToolAnswer
  Decided : DeadAnswer → ToolAnswer
  Listed : ListPlan → ToolAnswer

-- What is told of it; nothing where there is nothing to tell.
abbrev pub told_text : ToolAnswer → Option (List ℕ)
told_text (Restored plan) = restored_text plan
told_text (Decided answer) = dead_text answer
told_text (Listed plan) = listed_text plan

-- What is so of it: a text for a device means what the policy says. The lines on terms are their answers, and no more.
abbrev pub MeansAnswer : ToolAnswer → Type 0
MeansAnswer (Restored plan) = MeansPlan plan
MeansAnswer (Decided answer) = Unit {0}
MeansAnswer (Listed plan) = MeansListPlan plan

-- An answer of a command's own, or its fault, as that of the program.
abbrev pub answer_as : {A : Type 0} → (A → ToolAnswer) → Result A Fault → Result ToolAnswer Fault
answer_as wrap (Ok x) = Ok (wrap x)
answer_as wrap (Err fault) = Err fault

abbrev pub AnswersAs : {A : Type 0} → (A → ToolAnswer) → (List File → Result A Fault → Type 0) → List File
    → Result ToolAnswer Fault → Type 0
AnswersAs {A = A} wrap Answers files answer =
    (own : Result A Fault) × Answers files own × (answer ≡ answer_as wrap own)

abbrev pub Answers : ToolRequest → Day → List File → Result ToolAnswer Fault → Type 0
Answers (Speedway inputs family) today = AnswersAs Restored (Restores inputs family today)
Answers (Dead inputs) today = AnswersAs Decided (AnswersDead inputs today)
Answers (Standard inputs first) today = AnswersAs Listed (Lists inputs first today)

-- ---- the job of the words

-- None where they are no command line, else the answer or the first fault.
abbrev pub IsJobOf : Option ToolRequest → Day → List File → Option (Result ToolAnswer Fault) → Type 0
IsJobOf None day files None = Unit {0}
IsJobOf None day files (Some answer) = ⊥
IsJobOf (Some r) day files None = ⊥
IsJobOf (Some r) day files (Some answer) = Answers r (or_day (date_for r) day) files answer

-- What the words ask of acltool. `day` is the clock's.
abbrev pub asked : List (List ℕ) → Asked ToolRequest ToolAnswer
asked words = record {
  name = program_name;
  usage = usage_line;
  options = tool_request_of words;
  asks_clock = tool_asks_clock words;
  is_job = IsJobOf (tool_request_of words);
}

-- ---- the run

-- Whatever the ending, it is that of a run which writes no file and tells one text.
abbrev pub RunsTool : List (List ℕ) → World → World → Ended → Type 0
RunsTool words old new result = Prints (asked words) told_text MeansAnswer old new result
