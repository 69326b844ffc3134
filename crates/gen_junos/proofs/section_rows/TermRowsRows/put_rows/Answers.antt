use Rattle.std.proofs.Common.{ap, sym, ◌∙◌}
use Rattle.acl_rows.specs.Rows.{text_of_rows}
use Rattle.acl_rows.proofs.PutLaws.{retold}
use Rattle.gen_junos.proofs.Rows.{some-terms}
use Rattle.gen_junos.proofs.section_rows.TermRowsRows.put_rows.Goals as goal

pub returns-else-is_empty : goal.returns-else-is_empty
returns-else-is_empty g c =
    let texts = c.args.self.now.texts.now in
    retold (ap text_of_rows (some-terms texts.form.family texts.rules.now (sym c.is_empty.ensures ∙ c.if-is_empty.false))) c.put_rows-else-is_empty.ensures
