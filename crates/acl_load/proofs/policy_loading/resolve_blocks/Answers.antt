use Rattle.std.proofs.Common.{List, ◌<◌, length, arith}
use Rattle.acl_policy.specs.declared.blocks.Block.{Block}
use Rattle.acl_terms.specs.declared.terms.Term.{Term}
use Rattle.acl_load.specs.LoadedPolicies.{AreResolved, terms_slip}
use Rattle.acl_load.proofs.LoadedLaws.{slip-more, zip-more}
use Rattle.acl_load.proofs.policy_loading.resolve_blocks.Goals as goal

pub loop-block-preserved : goal.loop-block-preserved
loop-block-preserved c =
    let definitions = c.args.definitions.now in
    let blocks = c.args.blocks.now in
    let i = c.loop-block.block-index in
    let block = c.block-item.result in
    let within : i < length blocks = omega arith in
    let had = c.loop-block.invariant in
    let given = rw (c.as_slice.ensures, had.same) at c.in_ok-terms.ensures in
    record {
      slip = slip-more (λ (b : Block). terms_slip definitions b.terms) blocks i block block within c.block-item.is
          given.slip had.slip;
      terms = zip-more (λ (b : Block) (ts : List Term). AreResolved definitions b.terms ts) blocks i block block
          c.loop-block.lists c.push.new.self c.in_ok-terms.terms within c.block-item.is c.in_ok-push.ensures.ok
          given.terms had.terms;
      same = given.same;
    }
