use Rattle.acl_dead.proofs.RowFacts.{puts_held}
use Rattle.acl_dead.proofs.rows.put_side.Goals as goal

pub returns : goal.returns
returns c =
    puts_held c.args.set.now.top c.args.set.now.ranges c.ranges-2.result c.args.place c.args.values.now _ _
    c.ranges-2.ensures.list c.ranges-2.ensures.normal c.put_along.ensures
