-- The words of aclcheck, and what they ask for: a command, its options, and a packet. The words are those behind the
-- program's name.
use Rattle.std.specs.Prelude.{◌≡◌, ◌<◌, ℕ, List, [], ◌∷◌, ◌++◌, codes, length, Some, IsSomeAnd}
use Rattle.clap.specs.Words.{App}
use Rattle.acl_packet.specs.declared.packets.Packet.{Packet}
use Rattle.acl_options.specs.PacketTexts.{IsPacketText}
use Rattle.acl_target.specs.TargetTexts.{kind_text}
use Rattle.acl_target.specs.declared.targets.Kind.{Kind}
use Rattle.acl_options.specs.Commands.{Inputs, IsCount, IsTakenBy, NamesInputs, command_with, input_options, required_option, value_in}
use Rattle.acl_options.specs.ToolCommands.{Calls}

-- A section of a file: the file's path, the platform in whose language it is read, and the section's number, from 1 on.
pub record FileSection : Type 0 where
  pub path : List ℕ
  pub kind : Kind
  pub number : ℕ

-- What a policy, or a section of a file, does to a packet.
pub data CheckRequest : Type 0 where
  AskPolicy : Inputs → Packet → CheckRequest
  AskText : FileSection → Packet → CheckRequest

-- ---- the commands

abbrev pub policy_command : App
policy_command =
    command_with (codes "policy") (input_options ++ (required_option (codes "packet") ∷ []))

abbrev pub text_command : App
text_command = command_with (codes "text") (required_option (codes "text")
    ∷ required_option (codes "platform")
    ∷ required_option (codes "section")
    ∷ required_option (codes "packet")
    ∷ [])

-- ---- what stands

abbrev pub NamesPacket : App → List (List ℕ) → Packet → Type 0
NamesPacket command words packet =
    IsSomeAnd (value_in command words (codes "packet")) (λ text. IsPacketText text packet)

pub record AsksPolicy (inputs : Inputs) (packet : Packet) (words : List (List ℕ)) : Type 0 where
  pub taken : IsTakenBy policy_command words
  pub inputs_named : NamesInputs policy_command words inputs
  pub packet_named : NamesPacket policy_command words packet

pub record AsksText (at : FileSection) (packet : Packet) (words : List (List ℕ)) : Type 0 where
  pub taken : IsTakenBy text_command words
  pub path : value_in text_command words (codes "text") ≡ Some at.path
  pub path_stands : 0 < length at.path
  pub kind : IsSomeAnd (value_in text_command words (codes "platform")) (λ text. text ≡ kind_text at.kind)
  pub number : IsSomeAnd (value_in text_command words (codes "section")) (IsCount 1024 at.number)
  pub packet_named : NamesPacket text_command words packet

abbrev pub AsksForCheck : List (List ℕ) → CheckRequest → Type 0
AsksForCheck words (AskPolicy inputs packet) = Calls (codes "policy") (AsksPolicy inputs packet) words
AsksForCheck words (AskText at packet) = Calls (codes "text") (AsksText at packet) words
