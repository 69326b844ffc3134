use Rattle.std.proofs.Common.{◌+◌, ◌-◌, ◌*◌, arith}
use Rattle.acl_text.proofs.HexPairs.{pair_at}
use Rattle.acl_text.proofs.hex_digits.hex_pair.Goals as goal

pub returns : goal.returns
returns c =
    let n = c.args.n in
    let from = c.from-from.result in
    pair_at n from (2 * from + 2 - 2 * from) (omega (arith, c.ranges.n.fits)) c.from-from.ensures (omega arith)
