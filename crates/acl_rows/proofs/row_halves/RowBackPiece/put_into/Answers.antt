use Rattle.std.proofs.Common.{◌∷◌, [], refl}
use Rattle.std.proofs.lemmas.Result.{err_from_is_err_and}
use Rattle.acl_text.proofs.Putting.{goes_on, stops}
use Rattle.acl_rows.specs.RowHalves.{row_back}
use Rattle.acl_rows.proofs.row_halves.RowBackPiece.put_into.Goals as goal

pub returns-in_err-put_spaced : goal.returns-in_err-put_spaced
unfolding row_back
returns-in_err-put_spaced g c =
    let p = err_from_is_err_and c.from_residual.result c.from_residual.ensures.1 in
    rw (p.1, p.2) (stops (10 ∷ []) c.in_err-put_spaced.ensures refl)

pub returns : goal.returns
unfolding row_back
returns g c = goes_on g.met.O.Out.rest_goes_on c.in_ok-put_spaced.ensures c.put.ensures
