-- What the words of a run ask of its program.
use Rattle.std.specs.Prelude.{ℕ, Bool, List, Option, Result}
use Rattle.acl_text.specs.declared.faults.Fault.{Fault}
use Rattle.acl_host.specs.declared.days.Day.{Day}
use Rattle.acl_host.specs.Files.{File}

-- The program's name, and the line that says how it is called; the options, where the words are a command line; whether
-- the clock is asked; and the job on a day and of the files: none where the words are no command line, else what is to
-- be done, or the first fault.
pub record Asked (O A : Type 0) : Type 1 where
  pub name : List ℕ
  pub usage : List ℕ
  pub options : Option O
  pub asks_clock : Bool
  pub is_job : Day → List File → Option (Result A Fault) → Type 0
