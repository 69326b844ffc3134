use Rattle.std.proofs.Common.{ap}
use Rattle.acl_rows.specs.Rows.{text_of_rows}
use Rattle.acl_rows.proofs.PutLaws.{retold}
use Rattle.gen_nftables.proofs.Rows.{all-rows}
use Rattle.gen_nftables.proofs.section_rows.ChainItemsRows.put_rows.Goals as goal

pub returns : goal.returns
returns g c =
    let i = c.args.self.now in
    retold (ap text_of_rows (all-rows i.families i.verbose i.rules.now)) c.put_rules.ensures
