use Rattle.std.proofs.Common.{◌≡◌, drop}
use Rattle.acl_policy.specs.Values.{all_values}
use Rattle.acl_policy.proofs.values.check_all.Given as goal

abbrev pub invariant-loop-value : goal.invariant-loop-value
invariant-loop-value l = all_values l.kind (drop l.value-index l.values) ≡ all_values l.kind l.values
