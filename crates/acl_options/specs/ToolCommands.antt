-- The words of acltool, and what they ask for: a command, and its options. The words are those behind the program's name.
use Rattle.std.specs.Prelude.{◌≡◌, ℕ, List, [], ◌∷◌, ◌++◌, codes, IsSomeAnd}
use Rattle.clap.specs.Words.{App}
use Rattle.acl_packet.specs.declared.addresses.Family.{Family}
use Rattle.acl_packet.specs.declared.addresses.Family.TheVariants.{V4, V6}
use Rattle.acl_options.specs.Commands.{Inputs, IsCount, IsTakenBy, NamesInputs, command_with, input_options, required_option, value_in}

-- The text for iptables-restore of a policy's iptables targets of a family; which of its terms decide a packet; or the
-- standard lists of its Cisco targets, the first of which has a number.
pub data ToolRequest : Type 0 where
  Speedway : Inputs → Family → ToolRequest
  Dead : Inputs → ToolRequest
  Standard : Inputs → ℕ → ToolRequest

-- ---- the commands

abbrev pub speedway : App
speedway = command_with (codes "speedway") (input_options ++ (required_option (codes "family") ∷ []))

abbrev pub dead : App
dead = command_with (codes "dead") input_options

abbrev pub standard : App
standard = command_with (codes "standard") (input_options ++ (required_option (codes "first_number") ∷ []))

-- ---- what stands

abbrev pub family_text : Family → List ℕ
family_text V4 = codes "inet"
family_text V6 = codes "inet6"

pub record AsksForSpeedway (inputs : Inputs) (family : Family) (words : List (List ℕ)) : Type 0 where
  pub taken : IsTakenBy speedway words
  pub inputs_named : NamesInputs speedway words inputs
  pub family_named : IsSomeAnd (value_in speedway words (codes "family")) (λ text. text ≡ family_text family)

pub record AsksForDead (inputs : Inputs) (words : List (List ℕ)) : Type 0 where
  pub taken : IsTakenBy dead words
  pub inputs_named : NamesInputs dead words inputs

-- A standard list has a number from 1 to 99.
pub record AsksForStandard (inputs : Inputs) (first : ℕ) (words : List (List ℕ)) : Type 0 where
  pub taken : IsTakenBy standard words
  pub inputs_named : NamesInputs standard words inputs
  pub first_named : IsSomeAnd (value_in standard words (codes "first_number")) (IsCount 99 first)

-- The first word is the command's name, and this is so of those behind it.
pub record Calls (name : List ℕ) (P : List (List ℕ) → Type 0) (words : List (List ℕ)) : Type 0 where
  pub behind : List (List ℕ)
  pub begins : words ≡ name ∷ behind
  pub asks : P behind

abbrev pub AsksForTool : List (List ℕ) → ToolRequest → Type 0
AsksForTool words (Speedway inputs family) = Calls (codes "speedway") (AsksForSpeedway inputs family) words
AsksForTool words (Dead inputs) = Calls (codes "dead") (AsksForDead inputs) words
AsksForTool words (Standard inputs first) = Calls (codes "standard") (AsksForStandard inputs first) words
