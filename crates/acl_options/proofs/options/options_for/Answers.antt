use Rattle.std.proofs.Common.{◌∙◌, ap}
use Rattle.std.specs.Prelude.{option_and_then}
use Rattle.acl_options.specs.ComputableOptions.{options_in, options_of}
use Rattle.acl_options.proofs.options.options_for.Goals as goal

pub returns : goal.returns
unfolding options_of
returns c = c.options_among.ensures ∙ ap (option_and_then options_in) (c.in_ok-found.ensures _ c.command.ensures)
