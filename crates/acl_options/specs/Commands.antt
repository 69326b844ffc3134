-- What the commands of all programs have in common: their options, what clap takes and finds, and which values stand.
--
-- A command is one of clap, with options of one value each and flags, without subcommands, positionals, help and version.
-- Which words it takes, and the value of each option, is what clap states of such a command: `fault_of` lists the errors
-- that it has for some words, and `matches_of` the options that it finds. Ours is which values stand.
use Rattle.std.specs.Prelude.{◌≡◌, ◌≤◌, ◌<◌, ℕ, false, true, List, [], ◌∷◌, length, codes, nat_eq}
use Rattle.std.specs.Prelude.{Option, None, Some}
use Rattle.std.specs.List.{ends_with}
use Rattle.clap.specs.Words.{App, Rule, fault_of, first_of, matches_of, new_app, new_rule}
use Rattle.clap.specs.declared.builder.ArgAction.TheVariants.{Set, SetTrue}
use Rattle.acl_packet.specs.Decimals.{IsNumber}
use Rattle.acl_host.specs.declared.days.Day.{Day}
use Rattle.acl_host.specs.Days.{IsDayText}

-- ---- options

-- `--NAME VALUE` or `--NAME=VALUE`, once
abbrev pub value_option : List ℕ → Rule
value_option name = record (new_rule name) { long = Some name; action = Some Set }

abbrev pub required_option : List ℕ → Rule
required_option name = record (value_option name) { required = true }

-- a value that stands where the option is not given
abbrev pub defaulted_option : List ℕ → List ℕ → Rule
defaulted_option name text = record (value_option name) { defaults = text ∷ [] }

-- `--NAME`, without a value, once
abbrev pub flag_option : List ℕ → Rule
flag_option name = record (new_rule name) { long = Some name; action = Some SetTrue }

-- The command of this name with these options. It has no help and no version, and its words do not begin with its name.
abbrev pub command_with : List ℕ → List Rule → App
command_with name rules = record (new_app name) {
  top = record (new_app name).top {
    rules = rules;
    no_binary_name = true;
    disable_help_flag = true;
    disable_version_flag = true;
  };
}

-- clap has no error for the words
abbrev pub IsTakenBy : App → List (List ℕ) → Type 0
IsTakenBy command words = fault_of command words ≡ []

-- the value that clap finds for an option
abbrev pub value_in : App → List (List ℕ) → List ℕ → Option (List ℕ)
value_in command words name = first_of name (matches_of command words)

-- ---- what stands

abbrev pub IsFolder : List ℕ → Type 0
IsFolder path = 0 < length path

-- the path of a file does not end in a slash
pub record IsFile (path : List ℕ) : Type 0 where
  pub nonempty : 0 < length path
  pub no_slash : ends_with nat_eq path (47 ∷ []) ≡ false

-- the value is the text of the day, or both are missing
abbrev pub IsDate : Option (List ℕ) → Option Day → Type 0
IsDate None None = Unit {0}
IsDate (Some text) (Some day) = IsDayText text day.number
IsDate _ _ = ⊥

-- a number from 1 on, up to the most
pub record IsCount (most n : ℕ) (text : List ℕ) : Type 0 where
  pub number : IsNumber text n
  pub from_one : 1 ≤ n
  pub at_most : n ≤ most

-- ---- what a command is to read

-- The policy's path, the folder of the naming files, and the day that the words name.
pub record Inputs : Type 0 where
  pub policy : List ℕ
  pub definitions : List ℕ
  pub date : Option Day

abbrev pub input_options : List Rule
input_options = required_option (codes "policy_file")
    ∷ required_option (codes "definitions_directory")
    ∷ value_option (codes "date")
    ∷ []

pub record NamesInputs (command : App) (words : List (List ℕ)) (i : Inputs) : Type 0 where
  pub policy : value_in command words (codes "policy_file") ≡ Some i.policy
  pub policy_stands : IsFile i.policy
  pub definitions : value_in command words (codes "definitions_directory") ≡ Some i.definitions
  pub definitions_stands : IsFolder i.definitions
  pub date : IsDate (value_in command words (codes "date")) i.date
