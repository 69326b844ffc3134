-- What holds of the answers on terms.
use Rattle.std.specs.Prelude.{◌≡◌, List, Result}
use Rattle.acl_text.specs.declared.faults.Fault.{Fault}
use Rattle.acl_host.specs.declared.days.Day.{Day}
use Rattle.acl_host.specs.Files.{File}
use Rattle.acl_options.specs.Commands.{Inputs}
use Rattle.acltool_core.specs.TermAnswers.{AnswersDead, DeadAnswer}

-- There is at most one answer.
abbrev pub DeadAnswersAreOne : Type 0
DeadAnswersAreOne = (inputs : Inputs) (today : Day) (files : List File) (a b : Result DeadAnswer Fault)
    → AnswersDead inputs today files a → AnswersDead inputs today files b → a ≡ b
