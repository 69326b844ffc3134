use Rattle.std.proofs.Common.{ℕ, List, ◌≡◌, ◌∙◌, inl, subst}
use Rattle.acl_job.specs.Job.{report_of}
use Rattle.acl_job.specs.declared.planning.Work.{Work}
use Rattle.acl_run.specs.Lines.{outside_line}
use Rattle.acl_run.specs.Telling.{Reports, ReportsOn}
use Rattle.acl_run.specs.Worlds.{Stream}
use Rattle.acl_run.specs.declared.endings.Ended.{Ended}
use Rattle.acl_run.specs.declared.endings.Which.TheVariants as which
use Rattle.aclgen_core.specs.WorkloadPlans.{MakesWorkload}
use Rattle.aclgen_core.specs.FaultLines.{program_name}
use Rattle.aclgen_core.specs.WorkloadRuns.{RunsWorkload}
use Rattle.aclgen_core.proofs.workload_runs.run_workload.Goals as goal

reports-plan : (n : ℕ) (work : Work) (line text : List ℕ) (o o' e e' : Stream) (result : Ended) → text ≡ work.report.bytes
    → line ≡ outside_line program_name which.Out → MakesWorkload n work → ReportsOn line text o o' e e' result → RunsWorkload n o o' e e' result
reports-plan n work line text o o' e e' result is tells made r = record {
  out_counts = r.out_counts;
  err_counts = r.err_counts;
  tells = inl (made.0, made.1, subst (λ l. Reports l (report_of made.0) o o' e e' result) tells (subst (λ t. Reports line t o o' e e' result) (is ∙ made.2.report_is) r.so));
}

pub returns-in-Ok : goal.returns-in-Ok
returns-in-Ok g c =
    reports-plan c.args.terms c.in-Ok.work _ _ _ _ _ _ c.report_on.result c.as_slice.ensures c.outside_line.ensures c.in-Ok.ensures c.report_on.ensures
