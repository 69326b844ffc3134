use Rattle.std.proofs.Common.{[], ◌∷◌, ◌++◌, ap, ◌∙◌}
use Rattle.acl_rows.proofs.PutLaws.{retold}
use Rattle.acl_rows.proofs.RowLaws.{word_row}
use Rattle.acl_rows.proofs.listed_rows.AsRowRowForm.put_item.Goals as goal

pub returns-in-Some : goal.returns-in-Some
returns-in-Some g c =
    let word = g.F.WordForm.item_text c.args.self.now.form.now c.args.item.now in
    retold (ap (λ t. t ++ (word ++ 10 ∷ [])) c.in-Some.ensures ∙ word_row c.args.self.now.indent word) c.put_item_line.ensures

pub returns-in-None : goal.returns-in-None
returns-in-None g c =
    retold (word_row c.args.self.now.indent (g.F.WordForm.item_text c.args.self.now.form.now c.args.item.now)) c.put_far.ensures
