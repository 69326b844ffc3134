-- What the words of aclcheck ask for, as a function. A law says that it is `AsksForCheck` of `CheckCommands`.
use Rattle.std.specs.Prelude.{ℕ, Bool, false, if◌then◌else◌, List, [], ◌∷◌, codes, Option, None, Some, option_and_then}
use Rattle.std.specs.Str.{bytes_eq}
use Rattle.clap.specs.Words.{Row, first_of}
use Rattle.acl_packet.specs.declared.packets.Packet.{Packet}
use Rattle.acl_text.specs.OptionSteps.{◌>>=◌}
use Rattle.acl_options.specs.PacketTextSteps.{packet_in}
use Rattle.acl_target.specs.TargetTexts.{kind_text}
use Rattle.acl_target.specs.declared.targets.Kind.{Kind}
use Rattle.acl_target.specs.declared.targets.Kind.TheVariants.{Cisco, Juniper, Iptables, Nftables}
use Rattle.acl_options.specs.CheckCommands.{CheckRequest, AskPolicy, AskText, FileSection, policy_command, text_command}
use Rattle.acl_options.specs.ComputableCommands.{count_in, folder_named, inputs_in, is_undated, rows_in}

abbrev pub packet_named : List Row → Option Packet
packet_named rows = option_and_then packet_in (first_of (codes "packet") rows)

abbrev pub kind_named : List ℕ → Option Kind
kind_named text = if bytes_eq text (kind_text Cisco) then Some Cisco
    else if bytes_eq text (kind_text Juniper) then Some Juniper
    else if bytes_eq text (kind_text Iptables) then Some Iptables
    else if bytes_eq text (kind_text Nftables) then Some Nftables
    else None

abbrev pub kind_in : List Row → Option Kind
kind_in rows = option_and_then kind_named (first_of (codes "platform") rows)

abbrev pub path_in : List Row → Option (List ℕ)
path_in rows = option_and_then folder_named (first_of (codes "text") rows)

abbrev pub section_in : List Row → Option ℕ
section_in rows = option_and_then (count_in 1024) (first_of (codes "section") rows)

unfoldable pub policy_question_in : List Row → Option CheckRequest
policy_question_in rows = do
  inputs ← inputs_in rows
  packet ← packet_named rows
  Some (AskPolicy inputs packet)

unfoldable pub file_section_in : List Row → Option FileSection
file_section_in rows = do
  path ← path_in rows
  kind ← kind_in rows
  number ← section_in rows
  Some (record { path = path; kind = kind; number = number })

unfoldable pub text_question_in : List Row → Option CheckRequest
text_question_in rows = do
  at ← file_section_in rows
  packet ← packet_named rows
  Some (AskText at packet)

-- What the words behind a command's name ask for.
abbrev pub question_named : List ℕ → List (List ℕ) → Option CheckRequest
question_named name words =
    if bytes_eq name (codes "policy") then option_and_then policy_question_in (rows_in policy_command words)
    else if bytes_eq name (codes "text") then option_and_then text_question_in (rows_in text_command words)
    else None

-- What the words ask for, where they are a command line.
unfoldable pub check_request_of : List (List ℕ) → Option CheckRequest
check_request_of [] = None
check_request_of (name ∷ words) = question_named name words

-- The clock is asked where a policy is asked on no named day.
abbrev pub clock_is_for : Option CheckRequest → Bool
clock_is_for None = false
clock_is_for (Some (AskPolicy inputs packet)) = is_undated inputs.date
clock_is_for (Some (AskText at packet)) = false
