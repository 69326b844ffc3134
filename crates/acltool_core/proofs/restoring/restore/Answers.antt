use Rattle.acl_filters.specs.FilterRequests.{requests_of}
use Rattle.acl_options.specs.CodeViews.{inputs_view}
use Rattle.acl_run.proofs.PolicyAnswersLaws.{makes-of-policy, rejects-policy}
use Rattle.acl_run.proofs.LoadingLaws.{rejected-looks}
use Rattle.acltool_core.specs.RestorePlans.{IsReady, plan_of, restores_slip}
use Rattle.acltool_core.proofs.restoring.restore.Goals as goal

pub returns-in_err-restore_loaded-clause-makes : goal.returns-in_err-restore_loaded-clause-makes
returns-in_err-restore_loaded-clause-makes g c =
    let inputs = inputs_view c.args.inputs.now in
    rejects-policy inputs.definitions inputs.policy (λ l. restores_slip c.args.family c.args.today (requests_of l)) (plan_of c.args.family c.args.today) IsReady _
    c.in_ok-loaded.loaded c.in_err-restore_loaded.field-0.0 c.from_residual-in_err-restore_loaded.result c.in_ok-loaded.ensures.loads
    c.in_err-restore_loaded.ensures c.from_residual-in_err-restore_loaded.ensures.1

pub returns-clause-makes : goal.returns-clause-makes
returns-clause-makes g c =
    let inputs = inputs_view c.args.inputs.now in
    makes-of-policy inputs.definitions inputs.policy (λ l. restores_slip c.args.family c.args.today (requests_of l)) (plan_of c.args.family c.args.today) IsReady _
    c.in_ok-loaded.loaded _ c.in_ok-loaded.ensures.loads c.in_ok-restore_loaded.ensures

pub returns-in_err-restore_loaded-clause-looks : goal.returns-in_err-restore_loaded-clause-looks
returns-in_err-restore_loaded-clause-looks g c =
    rejected-looks _ c.args.tree.now c.load.new.tree c.in_ok-loaded.loaded
    c.in_err-restore_loaded.field-0.0 c.from_residual-in_err-restore_loaded.result c.in_ok-loaded.ensures.looks c.from_residual-in_err-restore_loaded.ensures.1
