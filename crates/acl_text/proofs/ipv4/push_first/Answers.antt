use Rattle.std.proofs.Common.{length, ap, arith}
use Rattle.std.proofs.lemmas.Fmt.{length-decimal-le_wide}
use Rattle.acl_text.proofs.ipv4.push_first.Goals as goal

pub push_all-requires : goal.push_all-requires
push_all-requires c =
    let short = length-decimal-le_wide 32 c.args.n (omega arith) (omega (arith, c.requires.small)) (omega (arith, c.requires.small)) in
    omega (arith, short, ap length c.format.ensures.text, c.as_bytes.ensures.len, c.requires.room)

pub returns-clause-len : goal.returns-clause-len
returns-clause-len c =
    let short = length-decimal-le_wide 32 c.args.n (omega arith) (omega (arith, c.requires.small)) (omega (arith, c.requires.small)) in
    omega (arith, short, ap length c.format.ensures.text, c.as_bytes.ensures.len, c.push_all.ensures.len)
