-- Requests that words ask for.
use Rattle.std.specs.Prelude.{ℕ, ◌≤◌}
use Rattle.acl_options.specs.ToolCommands.{ToolRequest, Speedway, Dead, Standard}

-- Lists are numbered from 1 on.
abbrev pub IsAskable : ToolRequest → Type 0
IsAskable (Speedway inputs family) = Unit {0}
IsAskable (Dead inputs) = Unit {0}
IsAskable (Standard inputs first) = 1 ≤ first
