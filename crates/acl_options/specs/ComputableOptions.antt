-- What the words of aclgen ask for, as a function. A law says that it is `AsksFor` of `CommandLines`.
use Rattle.std.specs.Prelude.{ℕ, Bool, false, List, codes, Option, None, Some, option_and_then}
use Rattle.std.specs.Str.{bytes_eq}
use Rattle.clap.specs.Words.{Row, first_of}
use Rattle.acl_packet.specs.Decimals.{number_in}
use Rattle.acl_text.specs.OptionSteps.{◌>>=◌}
use Rattle.acl_options.specs.CommandLines.{Options, command}
use Rattle.acl_options.specs.ComputableCommands.{date_in, definitions_in, folder_named, is_undated, policy_in, rows_in}

abbrev pub output_in : List Row → Option (List ℕ)
output_in rows = option_and_then folder_named (first_of (codes "output_directory") rows)

abbrev pub weeks_in : List Row → Option ℕ
weeks_in rows = option_and_then (number_in 520) (first_of (codes "exp_info") rows)

-- clap finds `true` for a flag that is given
abbrev pub is_true_text : Option (List ℕ) → Bool
is_true_text None = false
is_true_text (Some text) = bytes_eq text (codes "true")

abbrev pub shade_check_in : List Row → Bool
shade_check_in rows = is_true_text (first_of (codes "shade_check") rows)

unfoldable pub options_in : List Row → Option Options
options_in rows = do
  policy ← policy_in rows
  definitions ← definitions_in rows
  output ← output_in rows
  date ← date_in rows
  exp_info ← weeks_in rows
  Some (record {
    policy = policy;
    definitions = definitions;
    output = output;
    date = date;
    exp_info = exp_info;
    shade_check = shade_check_in rows;
  })

-- What the words ask for, where they are a command line.
unfoldable pub options_of : List (List ℕ) → Option Options
options_of words = option_and_then options_in (rows_in command words)

-- The clock is asked where words that stand name no day.
abbrev pub asks_clock_for : Option Options → Bool
asks_clock_for None = false
asks_clock_for (Some options) = is_undated options.date

abbrev pub asks_clock : List (List ℕ) → Bool
asks_clock words = asks_clock_for (options_of words)
