use Rattle.std.proofs.Common.{◌∙◌, ap}
use Rattle.std.specs.Prelude.{option_and_then}
use Rattle.acl_options.specs.ComputableTools.{speedway_in}
use Rattle.acl_options.proofs.tool_commands.speedway_for.Goals as goal

pub returns : goal.returns
returns c = c.speedway_among.ensures ∙ ap (option_and_then speedway_in) (c.in_ok-found.ensures _ c.speedway_command.ensures)
