use Rattle.std.proofs.Common.{◌+◌, ◌++◌, drop, take, flat_map, refl, ap, ◌∙◌}
use Rattle.std.proofs.lemmas.Result.{err_from_is_err_and}
use Rattle.acl_text.proofs.Putting.{goes_on, stops}
use Rattle.acl_rows.specs.Rows.{text_of_rows}
use Rattle.acl_rows.proofs.PutLaws.{retold, each_split}
use Rattle.acl_rows.proofs.rows.put_each.Goals as goal

pub returns-in_err-put_item : goal.returns-in_err-put_item
returns-in_err-put_item g c =
    let f = g.F.RowForm.item_rows c.args.form.now in
    let all = c.args.items.now in
    let i = c.loop-item.item-index in
    let item = c.item-item.result in
    let rest = text_of_rows (flat_map f (drop (i + 1) all)) in
    let p = err_from_is_err_and c.from_residual.result c.from_residual.ensures.1 in
    let whole = ap (λ x. (text_of_rows (flat_map f (take i all)) ++ text_of_rows (f x)) ++ rest) c.item-item.is ∙ each_split f all i item c.loop-item-test.true in
    rw (p.1, p.2) (retold whole (stops rest (goes_on g.met.O.Out.rest_goes_on c.loop-item.invariant c.in_err-put_item.ensures) refl))
