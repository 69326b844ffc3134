use Rattle.std.proofs.Common.{ap}
use Rattle.acl_rows.specs.Rows.{text_of_rows}
use Rattle.acl_rows.proofs.PutLaws.{retold}
use Rattle.gen_iptables.proofs.TailLaws.{tailed-rules}
use Rattle.gen_iptables.proofs.rule_rows.ChainRules.put_with_tail.Goals as goal

pub returns : goal.returns
returns g c =
    let chain = c.args.self.now in
    retold (ap text_of_rows (tailed-rules chain.hook chain.family chain.rule.now c.args.tail c.requires.alone)) c.put_address_pairs.ensures
