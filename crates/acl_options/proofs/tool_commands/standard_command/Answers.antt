use Rattle.acl_options.proofs.tool_commands.standard_command.Goals as goal

pub returns : goal.returns
returns c = c.with_required.ensures _ c.inputs_command.ensures
