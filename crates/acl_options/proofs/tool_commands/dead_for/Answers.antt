use Rattle.std.proofs.Common.{◌∙◌, ap}
use Rattle.std.specs.Prelude.{option_and_then}
use Rattle.acl_options.specs.ComputableTools.{dead_in}
use Rattle.acl_options.proofs.tool_commands.dead_for.Goals as goal

pub returns : goal.returns
returns c = c.dead_among.ensures ∙ ap (option_and_then dead_in) (c.in_ok-found.ensures _ c.dead_command.ensures)
