use Rattle.std.proofs.Common.{refl}
use Rattle.std.proofs.lemmas.Result.{err_from_is_err_and}
use Rattle.acl_text.proofs.Putting.{goes_on, stops}
use Rattle.acl_rows.proofs.PutLaws.{retold}
use Rattle.acl_rows.proofs.RowLaws.{free_spaced}
use Rattle.acl_rows.proofs.pieces.FreeTextWords.put_spaced.Goals as goal

pub returns-in_err-put : goal.returns-in_err-put
returns-in_err-put g c =
    let p = err_from_is_err_and c.from_residual.result c.from_residual.ensures.1 in
    let text = c.args.self.now.text.now in
    rw (p.1, p.2) (retold (free_spaced text) (stops text c.in_err-put.ensures refl))

pub returns : goal.returns
returns g c =
    retold (free_spaced c.args.self.now.text.now) (goes_on g.met.O.Out.rest_goes_on c.in_ok-put.ensures c.put-2.ensures)
