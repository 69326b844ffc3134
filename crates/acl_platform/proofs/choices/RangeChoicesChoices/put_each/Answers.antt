use Rattle.std.proofs.Common.{flat_map, ap, sym, ◌∙◌}
use Rattle.acl_rows.specs.Rows.{text_of_rows}
use Rattle.acl_rows.proofs.PutLaws.{retold}
use Rattle.acl_platform.specs.ChoiceSteps.{range_rows}
use Rattle.acl_platform.proofs.ChoiceLaws.{ranges-written}
use Rattle.acl_platform.proofs.choices.RangeChoicesChoices.put_each.Goals as goal

pub returns-else-is_all : goal.returns-else-is_all
returns-else-is_all g c =
    let rows = g.F.RowForm.item_rows c.args.form.now in
    let s = c.args.self.now.set.now in
    retold (ap (λ rs. text_of_rows (flat_map (range_rows rows) rs)) c.ranges_of.ensures.exact
    ∙ ap text_of_rows (ranges-written rows s (sym c.is_all.ensures.computed ∙ c.if-is_all.false))) c.put_ranges.ensures
