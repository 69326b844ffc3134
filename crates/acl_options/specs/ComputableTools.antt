-- What the words of acltool ask for, as a function. A law says that it is `AsksForTool` of `ToolCommands`.
use Rattle.std.specs.Prelude.{ℕ, Bool, false, if◌then◌else◌, List, [], ◌∷◌, codes, Option, None, Some, option_and_then}
use Rattle.std.specs.Str.{bytes_eq}
use Rattle.clap.specs.Words.{Row, first_of}
use Rattle.acl_packet.specs.declared.addresses.Family.{Family}
use Rattle.acl_packet.specs.declared.addresses.Family.TheVariants.{V4, V6}
use Rattle.acl_text.specs.OptionSteps.{◌>>=◌}
use Rattle.acl_host.specs.declared.days.Day.{Day}
use Rattle.acl_options.specs.ComputableCommands.{count_in, inputs_in, is_undated, rows_in}
use Rattle.acl_options.specs.ToolCommands.{ToolRequest, Speedway, Dead, Standard, dead, speedway, standard}

abbrev pub family_named : List ℕ → Option Family
family_named text = if bytes_eq text (codes "inet") then Some V4
    else if bytes_eq text (codes "inet6") then Some V6
    else None

abbrev pub family_in : List Row → Option Family
family_in rows = option_and_then family_named (first_of (codes "family") rows)

unfoldable pub speedway_in : List Row → Option ToolRequest
speedway_in rows = do
  inputs ← inputs_in rows
  family ← family_in rows
  Some (Speedway inputs family)

unfoldable pub dead_in : List Row → Option ToolRequest
dead_in rows = do
  inputs ← inputs_in rows
  Some (Dead inputs)

abbrev pub first_in : List Row → Option ℕ
first_in rows = option_and_then (count_in 99) (first_of (codes "first_number") rows)

unfoldable pub standard_in : List Row → Option ToolRequest
standard_in rows = do
  inputs ← inputs_in rows
  first ← first_in rows
  Some (Standard inputs first)

-- What the words behind a command's name ask for.
abbrev pub request_named : List ℕ → List (List ℕ) → Option ToolRequest
request_named name words =
    if bytes_eq name (codes "speedway") then option_and_then speedway_in (rows_in speedway words)
    else if bytes_eq name (codes "dead") then option_and_then dead_in (rows_in dead words)
    else if bytes_eq name (codes "standard") then option_and_then standard_in (rows_in standard words)
    else None

-- What the words ask for, where they are a command line.
unfoldable pub tool_request_of : List (List ℕ) → Option ToolRequest
tool_request_of [] = None
tool_request_of (name ∷ words) = request_named name words

-- The clock is asked where words that stand name no day.
abbrev pub date_for : ToolRequest → Option Day
date_for (Speedway inputs family) = inputs.date
date_for (Dead inputs) = inputs.date
date_for (Standard inputs first) = inputs.date

abbrev pub asks_clock_for : Option ToolRequest → Bool
asks_clock_for None = false
asks_clock_for (Some request) = is_undated (date_for request)

abbrev pub tool_asks_clock : List (List ℕ) → Bool
tool_asks_clock words = asks_clock_for (tool_request_of words)
