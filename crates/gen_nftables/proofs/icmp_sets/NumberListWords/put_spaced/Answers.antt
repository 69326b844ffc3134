use Rattle.std.proofs.Common.{◌-◌, length, arith}
use Rattle.acl_text.proofs.Putting.{puts-nothing}
use Rattle.acl_rows.proofs.PutLaws.{retold}
use Rattle.gen_nftables.proofs.NumberTexts.{no-numbers, others-are, some-numbers}
use Rattle.gen_nftables.proofs.icmp_sets.NumberListWords.put_spaced.Goals as goal

pub returns-in-empty : goal.returns-in-empty
returns-in-empty g c =
    retold (no-numbers c.args.self.now.ranges.now (omega arith)) (puts-nothing c.args.out.now g.met.O.Out.rest_same c.requires)

pub returns-in-len1-up : goal.returns-in-len1-up
returns-in-len1-up g c =
    retold (some-numbers c.args.self.now.ranges.now c.in-len1-up.len_at_least c.args.self.now.small) c.put_into.ensures

pub invariant_of-others : goal.invariant_of-others
invariant_of-others g c =
    let n = c.args.self.now in
    record { small = others-are n.ranges.now (length n.ranges.now - 1) n.small }
