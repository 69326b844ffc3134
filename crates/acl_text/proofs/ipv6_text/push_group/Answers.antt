use Rattle.std.proofs.Common.{arith}
use Rattle.acl_text.proofs.HexPairs.{written}
use Rattle.acl_text.proofs.ipv6_text.push_group.Goals as goal

pub returns-else-group-lt256-clause-items : goal.returns-else-group-lt256-clause-items
returns-else-group-lt256-clause-items c =
    written c.args.text.now c.push_byte-else-group-lt256.new.text c.hex_pair.result.now c.push_all.new.self c.args.group c.if-group-lt256.false (omega (arith, c.ranges.group.fits))
    c.push_byte-else-group-lt256.ensures.items c.hex_pair.ensures c.push_all.ensures.items
