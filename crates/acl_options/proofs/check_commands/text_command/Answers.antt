use Rattle.acl_options.proofs.check_commands.text_command.Goals as goal

pub returns : goal.returns
returns c =
    let text = c.with_required-command.ensures _ c.bare_command.ensures in
    let platform = c.with_required-command-2.ensures _ text in
    let section = c.with_required-command-3.ensures _ platform in
    c.with_required.ensures _ section
