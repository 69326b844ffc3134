use Rattle.acl_dead.proofs.ListSteps.{blocks_made}
use Rattle.acl_dead.proofs.blocking.boxes_for.Goals as goal

pub returns : goal.returns
returns c =
    blocks_made c.args.family c.mode-mode.result _ c.args.asked.now.term.now _ _ _ _ _ _ c.args.asked.now.earlier.items c.deref.result.now
    c.new-out.ensures.items c.in_ok-push.ensures.items c.in_ok-push-2.ensures.items c.in_ok-bars.ensures c.in_ok-failing_boxes.ensures
    c.deref.ensures.value c.mode-mode.ensures c.in_ok-push_earlier.ensures
