use Rattle.acl_dead.proofs.CutFacts.{boundary_list}
use Rattle.acl_dead.proofs.cuts.boundaries.Goals as goal

pub returns : goal.returns
returns c =
    boundary_list c.args.own.now.top c.args.own.now.ranges c.args.sets.now c.args.numbers.now _ _ _
    c.in_ok-out.ensures.normal c.in_ok-out.ensures.list c.in_ok-push_all_cuts.ensures c.put_in_order.ensures.rising c.put_in_order.ensures.kept
