use Rattle.std.proofs.Common.{◌+◌, [], List, ℕ, drop, refl}
use Rattle.std.specs.Borrow.{Bor}
use Rattle.std.proofs.lemmas.Result.{err_from_is_err_and}
use Rattle.acl_text.specs.Cuts.{views}
use Rattle.acl_text.proofs.Putting.{goes_on, stops}
use Rattle.acl_rows.specs.Rows.{spaced}
use Rattle.acl_rows.proofs.PutLaws.{retold, words_split}
use Rattle.acl_rows.proofs.pieces.put_words.Goals as goal

pub returns-in_err-put_spaced : goal.returns-in_err-put_spaced
returns-in_err-put_spaced g c =
    let all = c.args.words.now in
    let i = c.loop-word.word-index in
    let none : Bor (List ℕ) = record { ref_ptr = (0, 0); now = [] } in
    let rest = spaced (views (drop (i + 1) all)) in
    let p = err_from_is_err_and c.from_residual.result c.from_residual.ensures.1 in
    rw (p.1, p.2) (retold (words_split all i none c.loop-word-test.true)
    (stops rest (goes_on g.met.O.Out.rest_goes_on c.loop-word.invariant c.in_err-put_spaced.ensures) refl))
