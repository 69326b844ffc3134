use Rattle.std.proofs.Common.{ap}
use Rattle.acl_rows.specs.Rows.{text_of_rows}
use Rattle.acl_rows.proofs.PutLaws.{retold}
use Rattle.gen_nftables.proofs.Rows.{rule-rows}
use Rattle.gen_nftables.proofs.section_rows.InChainRuleForm.put_rule.Goals as goal

pub returns : goal.returns
returns g c =
    let f = c.args.self.now in
    retold (ap text_of_rows (rule-rows f.families f.verbose c.args.rule.now)) c.put_rows.ensures
