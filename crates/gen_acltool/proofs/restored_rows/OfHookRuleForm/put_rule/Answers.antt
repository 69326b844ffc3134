use Rattle.acl_rows.proofs.PutLaws.{retold}
use Rattle.gen_acltool.proofs.RestoredRows.{chain-text}
use Rattle.gen_acltool.proofs.restored_rows.OfHookRuleForm.put_rule.Goals as goal

pub returns : goal.returns
returns g c =
    let f = c.args.self.now in
    retold (chain-text f.hook f.family c.args.rule.now c.as_slice.ensures) c.put_rows.ensures
