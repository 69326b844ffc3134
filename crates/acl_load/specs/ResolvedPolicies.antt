-- What is left of a policy that is loaded once its terms are resolved.
use Rattle.std.specs.Prelude.{List, map}
use Rattle.acl_target.specs.declared.targets.Target.{Target}
use Rattle.acl_policy.specs.declared.blocks.Block.{Block}
use Rattle.acl_load.specs.declared.policy_loading.Loaded.{Loaded}
use Rattle.acl_load.specs.declared.resolved_policies.ResolvedPolicy.{ResolvedPolicy}

-- The targets of each block, in order.
abbrev pub targets_in : List Block → List (List Target)
targets_in blocks = map (λ b. b.targets) blocks

-- The definitions and the terms as they are written are left out.
abbrev pub resolved_of : Loaded → ResolvedPolicy
resolved_of loaded = record {
  sources = loaded.sources;
  targets = targets_in loaded.policy.blocks;
  terms = loaded.terms;
}
