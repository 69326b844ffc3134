use Rattle.acl_rows.proofs.PutLaws.{retold}
use Rattle.nft_lang.proofs.SafeRows.{row_begun}
use Rattle.gen_nftables.specs.Sections.{chain_rule}
use Rattle.gen_nftables.proofs.section_rows.OfRuleRowFormOptionU8.put_item.Goals as goal

pub returns : goal.returns
returns g c =
    let f = c.args.self.now in
    retold (row_begun f.families (chain_rule f.rule.now c.args.item.now)) c.put_rows.ensures
