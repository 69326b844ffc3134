use Rattle.std.proofs.Common.{◌∷◌, ◌++◌, [], length, arith}
use Rattle.std.proofs.lemmas.List.Elements.{All-push, All-same}
use Rattle.acl_naming.specs.declared.ranking.SearchStep.TheVariants.{Enter}
use Rattle.acl_naming.specs.RankSteps.{IsStepOf}
use Rattle.acl_naming.proofs.ranking.first_steps.Goals as goal

pub loop-i-preserved : goal.loop-i-preserved
loop-i-preserved c =
    let n = length c.args.table.now in
    let old = c.loop-i.steps.items in
    All-same (IsStepOf n) c.push.new.self.items (old ++ Enter c.loop-i.i ∷ []) c.in_ok-push.ensures.items
    (All-push (IsStepOf n) old (Enter c.loop-i.i) c.loop-i.invariant (omega (arith, c.len-i-end.ensures)))
