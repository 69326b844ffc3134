use Rattle.std.proofs.Common.{refl}
use Rattle.std.proofs.lemmas.Result.{err_from_is_err_and}
use Rattle.acl_text.proofs.Putting.{goes_on, stops}
use Rattle.acl_rows.proofs.each_word.WordForm.put_item_behind.Goals as goal

pub returns-in_err-put : goal.returns-in_err-put
returns-in_err-put g c =
    let p = err_from_is_err_and c.from_residual.result c.from_residual.ensures.1 in
    rw (p.1, p.2) (stops (g.Self.WordForm.item_text c.args.self.now c.args.item.now) c.in_err-put.ensures refl)

pub returns : goal.returns
returns g c = goes_on g.met.O.Out.rest_goes_on c.in_ok-put.ensures c.put_item_into.ensures
