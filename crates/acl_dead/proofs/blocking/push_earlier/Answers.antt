use Rattle.std.proofs.Common.{sym, ◌∙◌}
use Rattle.acl_dead.specs.BlockSteps.{boxes_in}
use Rattle.acl_dead.proofs.ListSteps.{apart_step, met_step}
use Rattle.acl_dead.proofs.blocking.push_earlier.Goals as goal

pub loop-other-preserved-then-branch : goal.loop-other-preserved-then-branch
loop-other-preserved-then-branch c =
    apart_step c.args.family c.args.mode c.args.term.now c.args.earlier.now c.loop-other.other-index c.other-item.result
    (boxes_in c.loop-other.out) _ c.loop-other-test.true c.other-item.is (sym c.in_ok-are_apart.ensures ∙ c.if-branch.true)
    c.loop-other.invariant

pub loop-other-preserved : goal.loop-other-preserved
loop-other-preserved c =
    met_step c.args.family c.args.mode c.args.term.now c.args.earlier.now c.loop-other.other-index c.other-item.result
    c.loop-other.out.items _ _ _ c.loop-other-test.true c.other-item.is (sym c.in_ok-are_apart.ensures ∙ c.if-branch.false)
    c.in_ok-boxes_of.ensures c.in_ok-push.ensures.items c.loop-other.invariant
