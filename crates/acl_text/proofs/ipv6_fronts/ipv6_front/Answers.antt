use Rattle.std.proofs.Common.{arith}
use Rattle.acl_text.proofs.GroupFronts.{short_front}
use Rattle.acl_text.proofs.ipv6_fronts.ipv6_front.Goals as goal

pub returns : goal.returns
returns c =
    short_front c.args.text.now c.side_front-front.result.rest.now c.in_ok-behind_byte.field-0.now c.in_ok-behind_byte-2.field-0.now c.side_front-back.result.rest.now
    c.side_front-front.result.left c.side_front-front.result.value c.side_front-back.result.left c.side_front-back.result.value c.join_sides-value.result
    c.side_front-front.ensures.side c.in_ok-behind_byte.ensures c.in_ok-behind_byte-2.ensures c.side_front-back.ensures.side (omega arith) c.join_sides-value.ensures
