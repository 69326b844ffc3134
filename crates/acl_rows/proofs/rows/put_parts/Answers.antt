use Rattle.std.proofs.Common.{◌∷◌, [], refl}
use Rattle.std.proofs.lemmas.Result.{err_from_is_err_and}
use Rattle.acl_text.proofs.Putting.{goes_on, stops}
use Rattle.acl_rows.specs.Rows.{spaced}
use Rattle.acl_rows.proofs.PutLaws.{retold}
use Rattle.acl_rows.proofs.RowLaws.{row_parts}
use Rattle.acl_rows.proofs.rows.put_parts.Goals as goal

pub returns-in_err-put_spaces : goal.returns-in_err-put_spaces
returns-in_err-put_spaces g c =
    let p = err_from_is_err_and c.from_residual.result c.from_residual.ensures.1 in
    let r = c.args.line.now in
    let first = g.P.Piece.text r.first in
    let rest = g.W.Words.words r.rest in
    rw (p.1, p.2) (retold (row_parts r.indent first rest) (stops (10 ∷ []) (stops (spaced rest) (stops first c.in_err-put_spaces.ensures refl) refl) refl))

pub returns-in_err-put_into : goal.returns-in_err-put_into
returns-in_err-put_into g c =
    let p = err_from_is_err_and c.from_residual-in_err-put_into.result c.from_residual-in_err-put_into.ensures.1 in
    let r = c.args.line.now in
    let rest = g.W.Words.words r.rest in
    let both = goes_on g.met.O.Out.rest_goes_on c.in_ok-put_spaces.ensures c.in_err-put_into.ensures in
    rw (p.1, p.2) (retold (row_parts r.indent (g.P.Piece.text r.first) rest) (stops (10 ∷ []) (stops (spaced rest) both refl) refl))

pub returns-in_err-put_spaced : goal.returns-in_err-put_spaced
returns-in_err-put_spaced g c =
    let p = err_from_is_err_and c.from_residual-in_err-put_spaced.result c.from_residual-in_err-put_spaced.ensures.1 in
    let r = c.args.line.now in
    let on = g.met.O.Out.rest_goes_on in
    let all = goes_on on (goes_on on c.in_ok-put_spaces.ensures c.in_ok-put_into.ensures) c.in_err-put_spaced.ensures in
    rw (p.1, p.2) (retold (row_parts r.indent (g.P.Piece.text r.first) (g.W.Words.words r.rest)) (stops (10 ∷ []) all refl))

pub returns : goal.returns
returns g c =
    let r = c.args.line.now in
    let on = g.met.O.Out.rest_goes_on in
    retold (row_parts r.indent (g.P.Piece.text r.first) (g.W.Words.words r.rest))
    (goes_on on (goes_on on (goes_on on c.in_ok-put_spaces.ensures c.in_ok-put_into.ensures) c.in_ok-put_spaced.ensures) c.put.ensures)
