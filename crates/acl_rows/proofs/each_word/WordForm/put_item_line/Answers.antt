use Rattle.std.proofs.Common.{[], ◌∷◌, append_assoc, refl}
use Rattle.std.proofs.lemmas.Result.{err_from_is_err_and}
use Rattle.acl_text.proofs.Putting.{goes_on, stops}
use Rattle.acl_rows.proofs.PutLaws.{retold}
use Rattle.acl_rows.proofs.each_word.WordForm.put_item_line.Goals as goal

pub returns-in_err-put_item_behind : goal.returns-in_err-put_item_behind
returns-in_err-put_item_behind g c =
    let word = g.Self.WordForm.item_text c.args.self.now c.args.item.now in
    let p = err_from_is_err_and c.from_residual.result c.from_residual.ensures.1 in
    rw (p.1, p.2) (retold (append_assoc c.args.front.now word (10 ∷ [])) (stops (10 ∷ []) c.in_err-put_item_behind.ensures refl))

pub returns : goal.returns
returns g c =
    let word = g.Self.WordForm.item_text c.args.self.now c.args.item.now in
    retold (append_assoc c.args.front.now word (10 ∷ [])) (goes_on g.met.O.Out.rest_goes_on c.in_ok-put_item_behind.ensures c.put.ensures)
