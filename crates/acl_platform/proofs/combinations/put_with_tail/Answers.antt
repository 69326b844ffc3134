use Rattle.std.proofs.Common.{flat_map, ap, sym, ◌∙◌}
use Rattle.std.proofs.lemmas.List.Folds.{flat_map-map}
use Rattle.acl_rows.specs.Rows.{text_of_rows}
use Rattle.acl_rows.proofs.PutLaws.{retold}
use Rattle.acl_platform.specs.Choices.{number_choices, pairs}
use Rattle.acl_platform.specs.ChoiceSteps.{with_tail}
use Rattle.acl_platform.specs.Combinations.{Parts, combination_of, parts_of}
use Rattle.acl_platform.proofs.TailLaws.{parts_with_tail}
use Rattle.acl_platform.proofs.combinations.put_with_tail.Goals as goal

pub returns : goal.returns
returns g c =
    let r = c.args.rule.now in
    let tail = c.args.tail in
    let rows = g.F.RowForm.item_rows c.args.form.now in
    let of_parts = λ (parts : Parts). rows (combination_of parts) in
    let addresses = pairs (number_choices r.protos) (pairs r.src r.dst) in
    retold (ap text_of_rows (sym (flat_map-map of_parts (with_tail tail) addresses)
    ∙ ap (λ parts. flat_map of_parts parts) (sym (parts_with_tail r tail c.requires.alone))
    ∙ sym (flat_map-map rows combination_of (parts_of r)))) c.put_address_pairs.ensures
