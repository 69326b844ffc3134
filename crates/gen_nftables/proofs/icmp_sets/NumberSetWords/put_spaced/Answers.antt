use Rattle.std.proofs.Common.{arith}
use Rattle.acl_text.proofs.Putting.{puts-nothing}
use Rattle.acl_rows.proofs.PutLaws.{retold}
use Rattle.gen_nftables.proofs.NumberTexts.{no-set, some-set}
use Rattle.gen_nftables.proofs.icmp_sets.NumberSetWords.put_spaced.Goals as goal

pub returns-in-empty : goal.returns-in-empty
returns-in-empty g c =
    let s = c.args.self.now in
    retold (no-set s.front.now s.key.now s.ranges.now (omega arith)) (puts-nothing c.args.out.now g.met.O.Out.rest_same c.requires)

pub returns-in-len1-up : goal.returns-in-len1-up
returns-in-len1-up g c =
    let s = c.args.self.now in
    retold (some-set s.front.now s.key.now s.ranges.now c.in-len1-up.len_at_least s.small) c.put_spaced.ensures
