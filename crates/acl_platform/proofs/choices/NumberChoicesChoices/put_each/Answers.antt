use Rattle.std.proofs.Common.{Some, flat_map, ap, sym, ◌∙◌}
use Rattle.acl_rows.specs.Rows.{text_of_rows}
use Rattle.acl_rows.proofs.PutLaws.{retold}
use Rattle.acl_platform.specs.Choices.{numbers_of}
use Rattle.acl_platform.proofs.ChoiceLaws.{numbers-written}
use Rattle.acl_platform.proofs.choices.NumberChoicesChoices.put_each.Goals as goal

pub returns-else-is_all : goal.returns-else-is_all
returns-else-is_all g c =
    let rows = g.F.RowForm.item_rows c.args.form.now in
    let s = c.args.self.now.set.now in
    retold (ap (λ rs. flat_map (λ n. text_of_rows (rows (Some n))) (numbers_of rs)) c.ranges_of.ensures.exact
    ∙ numbers-written rows s (sym c.is_all.ensures.computed ∙ c.if-is_all.false)) c.put_numbers.ensures
