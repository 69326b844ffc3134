use Rattle.acl_options.proofs.options.command.Goals as goal

pub returns : goal.returns
returns c =
    let output = c.with_required-command.ensures _ c.inputs_command.ensures in
    let weeks = rw (c.defaulted_option.ensures.rule) at (c.with_option-command.ensures _ output) in
    rw (c.flag_option.ensures.rule) at (c.with_option.ensures _ weeks)
