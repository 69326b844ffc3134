use Rattle.std.proofs.Common.{refl}
use Rattle.std.proofs.lemmas.Result.{err_from_is_err_and}
use Rattle.acl_text.proofs.Putting.{goes_on, stops}
use Rattle.acl_rows.specs.RowHalves.{row_front}
use Rattle.acl_rows.specs.Rows.{spaced}
use Rattle.acl_rows.proofs.row_halves.RowFrontPiece.put_into.Goals as goal

pub returns-in_err-put_spaces : goal.returns-in_err-put_spaces
unfolding row_front
returns-in_err-put_spaces g c =
    let p = err_from_is_err_and c.from_residual.result c.from_residual.ensures.1 in
    let r = c.args.self.now in
    rw (p.1, p.2) (stops (spaced (g.W.Words.words r.rest)) (stops (g.P.Piece.text r.first) c.in_err-put_spaces.ensures refl) refl)

pub returns-in_err-put_into : goal.returns-in_err-put_into
unfolding row_front
returns-in_err-put_into g c =
    let p = err_from_is_err_and c.from_residual-in_err-put_into.result c.from_residual-in_err-put_into.ensures.1 in
    let both = goes_on g.met.O.Out.rest_goes_on c.in_ok-put_spaces.ensures c.in_err-put_into.ensures in
    rw (p.1, p.2) (stops (spaced (g.W.Words.words c.args.self.now.rest)) both refl)

pub returns : goal.returns
unfolding row_front
returns g c =
    let on = g.met.O.Out.rest_goes_on in
    goes_on on (goes_on on c.in_ok-put_spaces.ensures c.in_ok-put_into.ensures) c.put_spaced.ensures
