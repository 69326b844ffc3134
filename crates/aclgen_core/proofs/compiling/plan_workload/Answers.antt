use Rattle.std.proofs.Common.{refl, ap, Some}
use Rattle.aclgen_core.specs.WorkloadPlans.{workload_options}
use Rattle.aclgen_core.proofs.WorkloadLaws.{makes-workload, no-workload-fault}
use Rattle.aclgen_core.proofs.compiling.plan_workload.Goals as goal

pub returns-in-Ok-clause-made : goal.returns-in-Ok-clause-made
returns-in-Ok-clause-made c = makes-workload c.args.terms workload_options _ _ c.in-Ok.work refl refl (ap Some c.requires.files) c.in-Ok.ensures.makes

pub unreachable-requires : goal.unreachable-requires
unreachable-requires c = no-workload-fault c.args.terms workload_options _ _ _ c.in-Err-Fault.field-0-0 c.requires.least c.requires.most refl refl
    (ap Some c.requires.files) c.in-Err-Fault.field-0-is c.in-Err-Fault.ensures.makes
