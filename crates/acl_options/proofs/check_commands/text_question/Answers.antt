use Rattle.std.proofs.Common.{◌∙◌, ap}
use Rattle.std.specs.Prelude.{option_and_then}
use Rattle.acl_options.specs.ComputableChecks.{text_question_in}
use Rattle.acl_options.proofs.check_commands.text_question.Goals as goal

pub returns : goal.returns
returns c = c.text_question_among.ensures ∙ ap (option_and_then text_question_in) (c.in_ok-found.ensures _ c.text_command.ensures)
