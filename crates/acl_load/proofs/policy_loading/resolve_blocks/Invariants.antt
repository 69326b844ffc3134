use Rattle.std.proofs.Common.{◌≡◌, drop, take}
use Rattle.acl_load.specs.LoadedPolicies.{AreResolvedIn, blocks_slip}
use Rattle.acl_load.proofs.policy_loading.resolve_blocks.Given as goal

abbrev pub invariant-loop-block : goal.invariant-loop-block
invariant-loop-block l = record {
  slip : blocks_slip l.definitions (drop l.block-index l.blocks) ≡ blocks_slip l.definitions l.blocks;
  terms : AreResolvedIn l.definitions (take l.block-index l.blocks) l.lists;
  same : l.known ≡ l.definitions;
}
