use Rattle.std.proofs.Common.{ℕ, List, ◌+◌, ◌++◌, drop, flat_map, refl, ap}
use Rattle.std.proofs.lemmas.Result.{err_from_is_err_and}
use Rattle.acl_text.proofs.Putting.{goes_on, stops}
use Rattle.acl_rows.specs.declared.line_texts.LineText.{LineText}
use Rattle.acl_rows.specs.LineHalfSteps.{text_of}
use Rattle.acl_rows.proofs.PutLaws.{retold, split_items}
use Rattle.acl_rows.proofs.line_halves.put_kept.Goals as goal

pub returns-in_err-put_halves : goal.returns-in_err-put_halves
returns-in_err-put_halves g c =
    let f : LineText → List ℕ = λ back. text_of c.args.front.now ++ text_of back in
    let all = c.args.kept.now in
    let i = c.loop-back.back-index in
    let rest = flat_map f (drop (i + 1) all) in
    let line = retold (ap f c.back-item.is) c.in_err-put_halves.ensures in
    let p = err_from_is_err_and c.from_residual.result c.from_residual.ensures.1 in
    rw (p.1, p.2) (retold (split_items f all i c.back-item.result c.loop-back-test.true)
    (stops rest (goes_on g.met.O.Out.rest_goes_on c.loop-back.invariant line) refl))
