use Rattle.acl_dead.proofs.CutFacts.{gathers_result}
use Rattle.acl_dead.proofs.cuts.push_cuts_of.Goals as goal

pub returns : goal.returns
returns c =
    gathers_result c.args.own.now.top c.args.set.now.top c.args.own.now.ranges c.args.set.now.ranges _ _ _ _
    c.ranges-2.ensures.list c.ranges-3.ensures.list c.ranges-2.ensures.normal c.ranges-3.ensures.normal
    c.push_cuts.result c.push_cuts.ensures
