use Rattle.std.proofs.Common.{[], ◌++◌, ap, sym, refl, append-nil}
use Rattle.std.proofs.lemmas.Result.{err_from_is_err_and}
use Rattle.acl_text.proofs.Putting.{goes_on, stops}
use Rattle.acl_rows.proofs.PutLaws.{retold}
use Rattle.ipt_lang.proofs.rule_words.put_keyed.Goals as goal

pub returns-in_err-put : goal.returns-in_err-put
returns-in_err-put g c =
    let p = err_from_is_err_and c.from_residual.result c.from_residual.ensures.1 in
    rw (p.1, p.2) (stops (g.P.Piece.text c.args.piece ++ []) c.in_err-put.ensures refl)

pub returns : goal.returns
returns g c =
    retold (ap (λ t. c.args.key.now ++ t) (sym (append-nil (g.P.Piece.text c.args.piece))))
    (goes_on g.met.O.Out.rest_goes_on c.in_ok-put.ensures c.put_into.ensures)
