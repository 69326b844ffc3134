use Rattle.acl_rows.proofs.PutLaws.{retold}
use Rattle.gen_acltool.proofs.RestoredRows.{section-text}
use Rattle.gen_acltool.proofs.restored_rows.put_section.Goals as goal

pub returns : goal.returns
returns g c =
    retold (section-text c.args.filter.now c.policy_of.ensures c.first_family-family.ensures c.as_slice-rules.ensures) c.put_rows.ensures
