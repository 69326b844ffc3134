use Rattle.std.proofs.Common.{◌∷◌, List, ℕ, refl, sym}
use Rattle.std.proofs.lemmas.Grind.{flat_map-append}
use Rattle.std.proofs.lemmas.Result.{err_from_is_err_and}
use Rattle.acl_text.proofs.Putting.{goes_on, stops}
use Rattle.acl_rows.specs.Rows.{spaced}
use Rattle.acl_rows.proofs.PutLaws.{retold}
use Rattle.acl_rows.proofs.pieces.Tuple2Words.put_spaced.Goals as goal

pub returns-in_err-put_spaced : goal.returns-in_err-put_spaced
returns-in_err-put_spaced g c =
    let p = err_from_is_err_and c.from_residual.result c.from_residual.ensures.1 in
    let first = g.A.Words.words c.args.self.now.0 in
    let second = g.B.Words.words c.args.self.now.1 in
    rw (p.1, p.2) (retold (sym (flat_map-append (λ (w : List ℕ). 32 ∷ w) first second)) (stops (spaced second) c.in_err-put_spaced.ensures refl))

pub returns : goal.returns
returns g c =
    retold (sym (flat_map-append (λ (w : List ℕ). 32 ∷ w) (g.A.Words.words c.args.self.now.0) (g.B.Words.words c.args.self.now.1)))
    (goes_on g.met.O.Out.rest_goes_on c.in_ok-put_spaced.ensures c.put_spaced-2.ensures)
