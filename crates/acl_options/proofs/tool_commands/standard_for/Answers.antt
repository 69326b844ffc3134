use Rattle.std.proofs.Common.{◌∙◌, ap}
use Rattle.std.specs.Prelude.{option_and_then}
use Rattle.acl_options.specs.ComputableTools.{standard_in}
use Rattle.acl_options.proofs.tool_commands.standard_for.Goals as goal

pub returns : goal.returns
returns c = c.standard_among.ensures ∙ ap (option_and_then standard_in) (c.in_ok-found.ensures _ c.standard_command.ensures)
