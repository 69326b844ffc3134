use Rattle.acl_options.proofs.commands.inputs_command.Goals as goal

pub returns : goal.returns
returns c =
    let policy = c.with_required-command.ensures _ c.bare_command.ensures in
    let definitions = c.with_required-command-2.ensures _ policy in
    rw (c.value_option.ensures.rule) at (c.with_option.ensures _ definitions)
