use Rattle.acl_terms.proofs.NumberLaws.{numbers-result}
use Rattle.acl_terms.proofs.protocols.set_of.Goals as goal

pub returns : goal.returns
returns c =
    numbers-result c.args.numbers.now 255 c.in_ok-ranges.ranges.items c.from_vec.result
    c.in_ok-ranges.ensures.same c.from_vec.ensures.top c.from_vec.ensures.normal c.from_vec.ensures.exact
