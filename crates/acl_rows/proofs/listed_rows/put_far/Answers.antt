use Rattle.std.proofs.Common.{[], ◌∷◌, ◌++◌, refl}
use Rattle.std.proofs.lemmas.Result.{err_from_is_err_and}
use Rattle.acl_text.proofs.Putting.{goes_on, stops}
use Rattle.acl_rows.proofs.listed_rows.put_far.Goals as goal

pub returns-in_err-put_spaces : goal.returns-in_err-put_spaces
returns-in_err-put_spaces g c =
    let p = err_from_is_err_and c.from_residual.result c.from_residual.ensures.1 in
    rw (p.1, p.2) (stops (g.F.WordForm.item_text c.args.form.now c.args.item.now ++ 10 ∷ []) c.in_err-put_spaces.ensures refl)

pub returns : goal.returns
returns g c = goes_on g.met.O.Out.rest_goes_on c.in_ok-put_spaces.ensures c.put_item_line.ensures
