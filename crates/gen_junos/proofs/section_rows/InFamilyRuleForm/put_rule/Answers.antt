use Rattle.acl_rows.proofs.PutLaws.{retold}
use Rattle.gen_junos.proofs.Rows.{term-text}
use Rattle.gen_junos.proofs.section_rows.InFamilyRuleForm.put_rule.Goals as goal

pub returns : goal.returns
returns g c =
    retold (term-text c.args.self.now.family c.args.rule.now c.as_slice.ensures c.as_slice-2.ensures) c.put_rows.ensures
