use Rattle.std.proofs.Common.{ap, sym, ◌∙◌}
use Rattle.acl_rows.specs.Rows.{text_of_rows}
use Rattle.acl_rows.proofs.PutLaws.{retold}
use Rattle.gen_cisco.specs.RowSteps.{items_rows}
use Rattle.gen_cisco.proofs.EntryCounts.{closing-items}
use Rattle.gen_cisco.proofs.Rows.{own-rows}
use Rattle.gen_cisco.proofs.section_rows.ListItemsRows.put_rows.Goals as goal

pub returns-then-has_rule : goal.returns-then-has_rule
returns-then-has_rule g c =
    let texts = c.args.self.now.texts.now in
    retold (ap text_of_rows (own-rows texts.form.family texts.rules.now (sym c.has_rule.ensures ∙ c.if-has_rule.true))) c.put_rows.ensures

pub returns-else-has_rule : goal.returns-else-has_rule
returns-else-has_rule g c =
    let texts = c.args.self.now.texts.now in
    retold (ap (λ items. text_of_rows (items_rows texts.form.family items))
    (sym (closing-items texts.form.family texts.rules.now (sym c.has_rule.ensures ∙ c.if-has_rule.false))))
    c.put_closing.ensures
