use Rattle.acl_options.specs.CodeViews.{inputs_view}
use Rattle.acltool_core.proofs.TellingLaws.{told}
use Rattle.acltool_core.proofs.dead_telling.tell_dead.Goals as goal

pub returns-clause-makes : goal.returns-clause-makes
returns-clause-makes g c =
    told (inputs_view c.args.inputs.now) c.args.today _ c.in_ok-loaded.loaded _ c.in_ok-loaded.ensures.loads c.in_ok-policy_lines.ensures
