use Rattle.std.proofs.Common.{subst, sym}
use Rattle.std.specs.List.{All}
use Rattle.acl_target.specs.TargetData.{IsTarget}
use Rattle.acl_load.specs.declared.resolved_policies.ResolvedPolicy.{ResolvedPolicy}
use Rattle.acl_options.specs.CodeViews.{options_view}
use Rattle.acl_run.proofs.LoadingLaws.{rejected-looks}
use Rattle.acl_job.proofs.PlanningLaws.{makes-planned, makes-rejected}
use Rattle.acl_job.proofs.PreparingLaws.{targets-sound}
use Rattle.acl_job.proofs.planning.make_work.Goals as goal

pub plan-requires : goal.plan-requires
plan-requires g c =
    let loaded = c.in_ok-loaded.loaded in
    let Sound : ResolvedPolicy → Type 0 = λ p. All (All IsTarget) p.targets in
    subst Sound (sym c.in_ok-policy.ensures) (targets-sound loaded.policy.blocks c.in_ok-loaded.ensures.fits.blocks_are)

pub returns-in_err-plan-clause-makes : goal.returns-in_err-plan-clause-makes
returns-in_err-plan-clause-makes g c =
    let loaded = c.in_ok-loaded.loaded in
    makes-rejected _ (options_view c.args.options.now) c.args.today loaded c.in_err-plan.field-0.0 c.from_residual-in_err-plan.result
    c.in_ok-loaded.ensures.loads
    (c.in_err-plan.ensures loaded c.in_ok-loaded.ensures.fits c.in_ok-loaded.ensures.terms (sym c.in_ok-policy.ensures))
    c.from_residual-in_err-plan.ensures.1

pub returns-clause-makes : goal.returns-clause-makes
returns-clause-makes g c =
    let loaded = c.in_ok-loaded.loaded in
    makes-planned _ (options_view c.args.options.now) c.args.today loaded _ c.in_ok-loaded.ensures.loads
    (c.in_ok-plan.ensures loaded c.in_ok-loaded.ensures.fits c.in_ok-loaded.ensures.terms (sym c.in_ok-policy.ensures))

pub returns-in_err-plan-clause-looks : goal.returns-in_err-plan-clause-looks
returns-in_err-plan-clause-looks g c =
    rejected-looks _ c.args.tree.now c.load.new.tree c.in_ok-loaded.loaded
    c.in_err-plan.field-0.0 c.from_residual-in_err-plan.result c.in_ok-loaded.ensures.looks c.from_residual-in_err-plan.ensures.1
