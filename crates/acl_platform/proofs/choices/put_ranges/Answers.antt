use Rattle.std.proofs.Common.{◌+◌, drop, flat_map, get_or, Some, ap}
use Rattle.acl_rows.specs.Rows.{text_of_rows}
use Rattle.acl_rows.proofs.PutLaws.{each_split, retold}
use Rattle.acl_sets.specs.declared.sets.Range.{Range}
use Rattle.acl_platform.specs.ChoiceSteps.{range_rows}
use Rattle.acl_platform.proofs.TextFronts.{refused}
use Rattle.acl_platform.proofs.choices.put_ranges.Goals as goal

pub returns-in_err-put_item : goal.returns-in_err-put_item
returns-in_err-put_item g c =
    let rows = g.F.RowForm.item_rows c.args.form.now in
    let all = c.args.ranges.now in
    let i = c.loop-range.range-index in
    let none : Range = record { low = 0; high = 0 } in
    let here = retold (ap (λ e. text_of_rows (rows (Some e))) c.ends_of.ensures) c.in_err-put_item.ensures in
    refused {here = text_of_rows (range_rows rows (get_or all i none))} (text_of_rows (flat_map (range_rows rows) (drop (i + 1) all)))
    c.from_residual.result (each_split (range_rows rows) all i none c.loop-range-test.true) g.met.O.Out.rest_goes_on
    c.loop-range.invariant here c.from_residual.ensures.1
