use Rattle.std.proofs.Common.{refl}
use Rattle.std.proofs.lemmas.Result.{err_from_is_err_and}
use Rattle.acl_text.proofs.Putting.{goes_on, stops}
use Rattle.acl_rows.proofs.pieces.Tuple2Piece.put_into.Goals as goal

pub returns-in_err-put_into : goal.returns-in_err-put_into
returns-in_err-put_into g c =
    let p = err_from_is_err_and c.from_residual.result c.from_residual.ensures.1 in
    rw (p.1, p.2) (stops (g.B.Piece.text c.args.self.now.1) c.in_err-put_into.ensures refl)

pub returns : goal.returns
returns g c = goes_on g.met.O.Out.rest_goes_on c.in_ok-put_into.ensures c.put_into-2.ensures
