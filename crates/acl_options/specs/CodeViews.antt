-- What the definitions see of the code's values that hold references.
use Rattle.std.specs.Prelude.{List, Option}
use Rattle.std.specs.Option.{option_map}
use Rattle.clap.specs.Words.{Row, found_of, rows_of}
use Rattle.clap.specs.declared.parser.matches.ArgMatches.{ArgMatches}
use Rattle.acl_options.specs.CheckCommands.{CheckRequest, AskPolicy, AskText, FileSection}
use Rattle.acl_options.specs.CommandLines.{Options}
use Rattle.acl_options.specs.Commands.{Inputs}
use Rattle.acl_options.specs.ToolCommands.{ToolRequest, Speedway, Dead, Standard}
use Rattle.acl_options.specs.declared.check_commands.CheckCommand.{CheckCommand}
use Rattle.acl_options.specs.declared.check_commands.CheckCommand.TheVariants as checks
use Rattle.acl_options.specs.declared.check_commands.FileSection.{FileSection as CodeSection}
use Rattle.acl_options.specs.declared.inputs.Inputs.{Inputs as CodeInputs}
use Rattle.acl_options.specs.declared.options.Options.{Options as CodeOptions}
use Rattle.acl_options.specs.declared.tool_commands.ToolCommand.{ToolCommand}
use Rattle.acl_options.specs.declared.tool_commands.ToolCommand.TheVariants as tools

abbrev pub options_view : CodeOptions → Options
options_view o = record {
  policy = o.policy.now;
  definitions = o.definitions.now;
  output = o.output.now;
  date = o.date;
  exp_info = o.exp_info;
  shade_check = o.shade_check;
}

abbrev pub inputs_view : CodeInputs → Inputs
inputs_view i = record { policy = i.policy.now; definitions = i.definitions.now; date = i.date }

abbrev pub tool_view : ToolCommand → ToolRequest
tool_view (tools.Speedway inputs family) = Speedway (inputs_view inputs) family
tool_view (tools.Dead inputs) = Dead (inputs_view inputs)
tool_view (tools.Standard inputs first) = Standard (inputs_view inputs) first

abbrev pub section_view : CodeSection → FileSection
section_view s = record { path = s.path.now; kind = s.kind; number = s.number }

abbrev pub check_view : CheckCommand → CheckRequest
check_view (checks.Policy inputs packet) = AskPolicy (inputs_view inputs) packet
check_view (checks.Text at packet) = AskText (section_view at) packet

-- The options that clap found, where it took the words.
abbrev pub rows_found : Option ArgMatches → Option (List Row)
rows_found found = option_map (λ m. rows_of (found_of m)) found
