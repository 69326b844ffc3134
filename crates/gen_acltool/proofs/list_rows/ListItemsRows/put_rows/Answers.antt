use Rattle.std.proofs.Common.{[], ◌∷◌, ap, sym, ◌∙◌}
use Rattle.acl_rows.specs.Rows.{text_of_rows}
use Rattle.acl_rows.proofs.PutLaws.{retold}
use Rattle.std_lang.specs.declared.documents.Item.TheVariants.{Entry as AnEntry}
use Rattle.gen_acltool.specs.RowSteps.{items_rows}
use Rattle.gen_acltool.proofs.EntryCounts.{no-rule}
use Rattle.gen_acltool.proofs.Rows.{rules-rows}
use Rattle.gen_acltool.proofs.list_rows.ListItemsRows.put_rows.Goals as goal

pub returns-then-is_empty : goal.returns-then-is_empty
returns-then-is_empty g c =
    let l = c.args.self.now in
    retold (ap (λ e. text_of_rows (items_rows l.number (AnEntry e ∷ []))) c.denial-entry.ensures
    ∙ ap (λ items. text_of_rows (items_rows l.number items)) (sym (no-rule l.rules.now (sym c.is_empty.ensures ∙ c.if-is_empty.true))))
    c.put_rows.ensures

pub returns-else-is_empty : goal.returns-else-is_empty
returns-else-is_empty g c =
    let l = c.args.self.now in
    retold (ap text_of_rows (rules-rows l.number l.rules.now (sym c.is_empty.ensures ∙ c.if-is_empty.false))) c.put_rules.ensures
