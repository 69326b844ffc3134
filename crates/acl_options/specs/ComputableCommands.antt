-- What is read of the options that clap finds, as functions. Laws say that they are the facts of `Commands`.
use Rattle.std.specs.Prelude.{ℕ, Bool, true, false, not, ◌==◌, if◌then◌else◌, List, [], ◌∷◌}
use Rattle.std.specs.Prelude.{length, codes, nat_eq, Option, None, Some, is_some, option_and_then}
use Rattle.std.specs.List.{ends_with}
use Rattle.clap.specs.Words.{App, Kinds, Row, fault_of, first_of, matches_of}
use Rattle.acl_packet.specs.Decimals.{number_in}
use Rattle.acl_text.specs.OptionSteps.{◌>>=◌}
use Rattle.acl_host.specs.declared.days.Day.{Day}
use Rattle.acl_host.specs.NamedDays.{day_named}
use Rattle.acl_options.specs.Commands.{Inputs}

abbrev pub is_none : Kinds → Bool
is_none [] = true
is_none (k ∷ ks) = false

-- clap takes the words: it has no error for them, of whatever kind
abbrev pub is_taken : App → List (List ℕ) → Bool
is_taken command words = is_none (fault_of command words)

-- The options that clap finds, where it takes the words.
abbrev pub rows_in : App → List (List ℕ) → Option (List Row)
rows_in command words = if is_taken command words then Some (matches_of command words) else None

-- ---- the values

abbrev pub folder_named : List ℕ → Option (List ℕ)
folder_named text = if length text == 0 then None else Some text

abbrev pub file_named : List ℕ → Option (List ℕ)
file_named text = if ends_with nat_eq text (47 ∷ []) then None else folder_named text

abbrev pub policy_in : List Row → Option (List ℕ)
policy_in rows = option_and_then file_named (first_of (codes "policy_file") rows)

abbrev pub definitions_in : List Row → Option (List ℕ)
definitions_in rows = option_and_then folder_named (first_of (codes "definitions_directory") rows)

abbrev pub not_zero : ℕ → Option ℕ
not_zero n = if n == 0 then None else Some n

-- a number from 1 on, up to the most
abbrev pub count_in : ℕ → List ℕ → Option ℕ
count_in most text = option_and_then not_zero (number_in most text)

-- the day is named, or no day is given
abbrev pub date_named : Option (List ℕ) → Option (Option Day)
date_named None = Some None
date_named (Some text) = option_and_then (λ day. Some (Some day)) (day_named text)

abbrev pub date_in : List Row → Option (Option Day)
date_in rows = date_named (first_of (codes "date") rows)

unfoldable pub inputs_in : List Row → Option Inputs
inputs_in rows = do
  policy ← policy_in rows
  definitions ← definitions_in rows
  date ← date_in rows
  Some (record { policy = policy; definitions = definitions; date = date })

-- The clock is asked where words that stand name no day.
abbrev pub is_undated : Option Day → Bool
is_undated date = not (is_some date)
