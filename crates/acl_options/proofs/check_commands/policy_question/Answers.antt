use Rattle.std.proofs.Common.{◌∙◌, ap}
use Rattle.std.specs.Prelude.{option_and_then}
use Rattle.acl_options.specs.ComputableChecks.{policy_question_in}
use Rattle.acl_options.proofs.check_commands.policy_question.Goals as goal

pub returns : goal.returns
returns c = c.policy_question_among.ensures ∙ ap (option_and_then policy_question_in) (c.in_ok-found.ensures _ c.policy_command.ensures)
