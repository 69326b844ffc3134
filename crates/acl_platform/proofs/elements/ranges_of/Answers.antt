use Rattle.acl_platform.proofs.ChoiceLaws.{ranges-fit}
use Rattle.acl_platform.proofs.elements.ranges_of.Goals as goal

pub returns-clause-fit : goal.returns-clause-fit
returns-clause-fit c most h =
    let s = c.args.set.now in
    ranges-fit 0 s.top most s.ranges c.range_slice.result.now c.range_slice.ensures.normal h c.range_slice.ensures.list
