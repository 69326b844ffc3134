use Rattle.std.proofs.Common.{◌≡◌}
use Rattle.aclgen_core.specs.WorkloadTexts.{for_each, service_line}
use Rattle.aclgen_core.proofs.workloads.services.Given as goal

abbrev pub invariant-loop-i : goal.invariant-loop-i
invariant-loop-i l = l.text ≡ for_each service_line l.i
