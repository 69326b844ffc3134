use Rattle.std.proofs.Common.{List, ◌++◌, flat_map, ap, ◌∙◌}
use Rattle.acl_packet.specs.declared.addresses.Prefix.{Prefix}
use Rattle.acl_rows.specs.Rows.{Row, text_of_rows}
use Rattle.acl_rows.proofs.PutLaws.{retold}
use Rattle.acl_platform.specs.Remarks.{remarks}
use Rattle.std_lang.specs.declared.documents.Item.TheVariants.{Remark, Entry as AnEntry}
use Rattle.std_lang.specs.Texts.{item_rows}
use Rattle.gen_acltool.specs.Sections.{entry_of}
use Rattle.gen_acltool.proofs.Rows.{rule-rows}
use Rattle.gen_acltool.proofs.list_rows.OfListRuleForm.put_rule.Goals as goal

pub returns : goal.returns
returns g c =
    let n = c.args.self.now.number in
    let r = c.args.rule.now in
    let rows : List Prefix → List Row = λ sources. flat_map (λ text. item_rows n (Remark text)) (remarks r)
    ++ flat_map (λ s. item_rows n (AnEntry (entry_of r s))) sources in
    retold (ap (λ sources. text_of_rows (rows sources)) c.all.ensures ∙ ap text_of_rows (rule-rows n r)) c.put_rows.ensures
