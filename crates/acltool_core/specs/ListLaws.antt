-- What holds of the answers on standard lists.
use Rattle.std.specs.Prelude.{◌≡◌, ℕ, List, Result}
use Rattle.acl_text.specs.declared.faults.Fault.{Fault}
use Rattle.acl_host.specs.declared.days.Day.{Day}
use Rattle.acl_host.specs.Files.{File}
use Rattle.acl_options.specs.Commands.{Inputs}
use Rattle.acltool_core.specs.ListPlans.{ListPlan, Lists}

-- There is at most one answer.
abbrev pub ListAnswersAreOne : Type 0
ListAnswersAreOne = (inputs : Inputs) (first : ℕ) (today : Day) (files : List File) (a b : Result ListPlan Fault)
    → Lists inputs first today files a → Lists inputs first today files b → a ≡ b

-- There is an answer, whatever the files are.
abbrev pub ListAnswersAreThere : Type 0
ListAnswersAreThere = (inputs : Inputs) (first : ℕ) (today : Day) (files : List File)
    → (answer : Result ListPlan Fault) × Lists inputs first today files answer
