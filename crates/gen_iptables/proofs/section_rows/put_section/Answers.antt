use Rattle.acl_rows.proofs.PutLaws.{retold}
use Rattle.gen_iptables.proofs.Rows.{section-text}
use Rattle.gen_iptables.proofs.section_rows.put_section.Goals as goal

pub returns : goal.returns
returns g c =
    retold (section-text c.args.filter.now c.head_of.ensures c.first_family.ensures c.as_slice.ensures) c.put_rows.ensures
