use Rattle.std.proofs.Common.{ℕ, List, subst, sym}
use Rattle.acl_load.specs.declared.resolved_policies.ResolvedPolicy.{ResolvedPolicy}
use Rattle.acl_report.specs.Reports.{terms_report}
use Rattle.acl_options.specs.CodeViews.{options_view}
use Rattle.acl_job.specs.PreparingSteps.{IsWorkOf}
use Rattle.acl_job.proofs.PlanningLaws.{is-planned}
use Rattle.acl_job.proofs.planning.plan_with.Goals as goal

pub returns-in_ok-work_of-in-Ok : goal.returns-in_ok-work_of-in-Ok
returns-in_ok-work_of-in-Ok c = λ loaded fits resolved same.
    let o = options_view c.args.options.now in
    let Made : List ℕ → Type 0 = λ lines. IsWorkOf lines c.in-Ok.drafts c.in_ok-work_of-in-Ok.field-0 in
    let Told : ResolvedPolicy → Type 0 = λ p. IsWorkOf (terms_report c.args.today o.exp_info p) c.in-Ok.drafts c.in_ok-work_of-in-Ok.field-0 in
    is-planned o c.args.today loaded _ _ (c.in-Ok.ensures loaded same)
    (subst Told (sym same) (subst Made c.in_ok-report-in-Ok.ensures.text c.in_ok-work_of-in-Ok.ensures)) fits resolved
