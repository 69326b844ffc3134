-- The words of aclgen, and what they ask for. The words are those behind the program's name.
use Rattle.std.specs.Prelude.{◌≡◌, ◌↔◌, ◌≤◌, ℕ, Bool, IsTrue, List, [], ◌∷◌, ◌++◌, codes}
use Rattle.std.specs.Prelude.{Option, Some, IsSomeAnd}
use Rattle.clap.specs.Words.{App, Rule}
use Rattle.acl_packet.specs.Decimals.{IsNumber}
use Rattle.acl_host.specs.declared.days.Day.{Day}
use Rattle.acl_options.specs.Commands.{IsDate, IsFile, IsFolder, IsTakenBy, command_with, defaulted_option, flag_option, input_options, required_option, value_in}

-- What the words ask for: the policy's path, the folder of the naming files, the folder for the filters, the day that
-- they name, for how many weeks ahead the end of a term is told, and whether a shaded term is a fault.
pub record Options : Type 0 where
  pub policy : List ℕ
  pub definitions : List ℕ
  pub output : List ℕ
  pub date : Option Day
  pub exp_info : ℕ
  pub shade_check : Bool

abbrev pub options : List Rule
options = input_options ++ (required_option (codes "output_directory")
    ∷ defaulted_option (codes "exp_info") (codes "2")
    ∷ flag_option (codes "shade_check")
    ∷ [])

abbrev pub command : App
command = command_with (codes "aclgen") options

abbrev pub value_of : List (List ℕ) → List ℕ → Option (List ℕ)
value_of = value_in command

-- a number of weeks
abbrev pub IsWeeks : ℕ → List ℕ → Type 0
IsWeeks weeks text = IsNumber text weeks × (weeks ≤ 520)

-- A flag is set exactly where it is among the words: clap finds `true` for it there, and `false` elsewhere.
abbrev pub IsFlag : Bool → Option (List ℕ) → Type 0
IsFlag is_set value = IsTrue is_set ↔ (value ≡ Some (codes "true"))

-- The words ask for these options: clap has no error for them, and the values are these.
pub record AsksFor (words : List (List ℕ)) (o : Options) : Type 0 where
  pub taken : IsTakenBy command words
  pub policy : value_of words (codes "policy_file") ≡ Some o.policy
  pub policy_stands : IsFile o.policy
  pub definitions : value_of words (codes "definitions_directory") ≡ Some o.definitions
  pub definitions_stands : IsFolder o.definitions
  pub output : value_of words (codes "output_directory") ≡ Some o.output
  pub output_stands : IsFolder o.output
  pub date : IsDate (value_of words (codes "date")) o.date
  pub exp_info : IsSomeAnd (value_of words (codes "exp_info")) (IsWeeks o.exp_info)
  pub shade_check : IsFlag o.shade_check (value_of words (codes "shade_check"))
