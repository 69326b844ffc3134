use Rattle.acl_load.proofs.LoadSteps.{looks-failed, looks-loaded, looks-rejected}
use Rattle.acl_load.proofs.loading.load_definitions.Goals as goal

pub returns-in_err-base-clause-looks : goal.returns-in_err-base-clause-looks
returns-in_err-base-clause-looks g c =
    looks-failed _ c.args.tree.now c.read_definitions.new.tree c.in_err-base.field-0.0 c.from_residual.result
    c.in_err-base.ensures.looks c.from_residual.ensures.1

pub returns-in_err-check_definitions-clause-looks : goal.returns-in_err-check_definitions-clause-looks
returns-in_err-check_definitions-clause-looks g c =
    looks-rejected _ c.args.tree.now c.read_definitions.new.tree c.in_ok-base.field-0 c.in_err-check_definitions.field-0.0
    c.from_residual-in_err-check_definitions.result c.in_ok-base.ensures.looks
    c.from_residual-in_err-check_definitions.ensures.1

pub returns-clause-looks : goal.returns-clause-looks
returns-clause-looks g c =
    looks-loaded _ c.args.tree.now c.read_definitions.new.tree c.in_ok-base.field-0 c.in_ok-check_definitions.field-0
    c.in_ok-base.ensures.looks
