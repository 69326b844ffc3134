use Rattle.std.proofs.Common.{◌≡◌, take}
use Rattle.acl_load.specs.ResolvedPolicies.{targets_in}
use Rattle.acl_load.proofs.resolved_policies.targets_in.Given as goal

abbrev pub invariant-loop-block : goal.invariant-loop-block
invariant-loop-block l = l.lists ≡ targets_in (take l.block-index l.blocks)
