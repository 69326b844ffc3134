use Rattle.std.proofs.Common.{ap, sym, ◌∙◌}
use Rattle.acl_expand.specs.SlipSteps.{are_below_headers}
use Rattle.acl_expand.proofs.HeaderLaws.{none_named}
use Rattle.acl_expand.proofs.slips.header_in.Goals as goal

pub returns-then-are_below_headers : goal.returns-then-are_below_headers
returns-then-are_below_headers c =
    none_named c.args.protos.now.ranges
    (ap are_below_headers (sym c.range_slice.ensures.list) ∙ sym c.are_below_headers.ensures ∙ c.if-are_below_headers.true)
