use Rattle.std.proofs.Common.{◌≡◌, take}
use Rattle.acl_load.proofs.resolved_policies.copy_targets.Given as goal

abbrev pub invariant-loop-target : goal.invariant-loop-target
invariant-loop-target l = l.copies ≡ take l.target-index l.targets
