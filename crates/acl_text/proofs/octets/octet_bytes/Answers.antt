use Rattle.std.proofs.Common.{◌+◌, ◌-◌, ◌*◌, arith}
use Rattle.acl_text.proofs.OctetTable.{few_digits, octet_front, pointed_front}
use Rattle.acl_text.proofs.octets.octet_bytes.Goals as goal

pub returns-clause-pointed : goal.returns-clause-pointed
returns-clause-pointed c =
    let n = c.args.n in
    let from = c.from-from.result in
    pointed_front n from (4 * from + 4 - 4 * from) (omega (arith, c.ranges.n.fits)) c.from-from.ensures (omega arith) (few_digits n (omega (arith, c.ranges.n.fits)))

pub returns-clause-text : goal.returns-clause-text
returns-clause-text c = octet_front c.args.n _ (returns-clause-pointed c)
