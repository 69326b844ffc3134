use Rattle.std.proofs.Common.{◌+◌, ◌∷◌, ◌++◌, drop, take, map, refl, ap, ◌∙◌}
use Rattle.std.proofs.lemmas.Result.{err_from_is_err_and}
use Rattle.acl_text.proofs.Putting.{goes_on, stops}
use Rattle.acl_rows.specs.Rows.{spaced}
use Rattle.acl_rows.proofs.EachWordLaws.{item_words_split}
use Rattle.acl_rows.proofs.PutLaws.{retold}
use Rattle.acl_rows.proofs.each_word.put_each_word.Goals as goal

pub returns-in_err-put_word_of : goal.returns-in_err-put_word_of
returns-in_err-put_word_of g c =
    let f = g.F.WordForm.item_text c.args.form.now in
    let all = c.args.items.now in
    let i = c.loop-item.item-index in
    let item = c.item-item.result in
    let rest = spaced (map f (drop (i + 1) all)) in
    let p = err_from_is_err_and c.from_residual.result c.from_residual.ensures.1 in
    let whole = ap (λ x. (spaced (map f (take i all)) ++ (32 ∷ f x)) ++ rest) c.item-item.is ∙ item_words_split f all i item c.loop-item-test.true in
    rw (p.1, p.2) (retold whole (stops rest (goes_on g.met.O.Out.rest_goes_on c.loop-item.invariant c.in_err-put_word_of.ensures) refl))
