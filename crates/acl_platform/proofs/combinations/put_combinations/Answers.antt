use Rattle.std.proofs.Common.{flat_map, ap, sym, ◌∙◌}
use Rattle.std.proofs.lemmas.List.Folds.{flat_map-map}
use Rattle.acl_rows.specs.Rows.{text_of_rows}
use Rattle.acl_rows.proofs.PutLaws.{retold}
use Rattle.acl_platform.specs.Combinations.{combination_of, parts_of}
use Rattle.acl_platform.proofs.combinations.put_combinations.Goals as goal

pub returns : goal.returns
returns g c =
    let rows = g.F.RowForm.item_rows c.args.form.now in
    retold (ap (λ parts. text_of_rows (flat_map (λ x. rows (combination_of x)) parts)) c.choices_of.ensures
    ∙ ap text_of_rows (sym (flat_map-map rows combination_of (parts_of c.args.rule.now)))) c.put_each.ensures
