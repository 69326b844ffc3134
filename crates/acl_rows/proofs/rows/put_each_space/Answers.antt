use Rattle.std.proofs.Common.{◌≡◌, ◌+◌, ◌-◌, ◌++◌, replicate, refl, ap, ◌∙◌, arith}
use Rattle.std.proofs.lemmas.List.{replicate-append-replicate, replicate_more}
use Rattle.std.proofs.lemmas.Result.{err_from_is_err_and}
use Rattle.acl_text.proofs.Putting.{goes_on, stops}
use Rattle.acl_rows.proofs.PutLaws.{retold}
use Rattle.acl_rows.proofs.rows.put_each_space.Goals as goal

pub returns-in_err-put : goal.returns-in_err-put
returns-in_err-put g c =
    let i = c.loop-space._space in
    let left = c.args.count - (i + 1) in
    let p = err_from_is_err_and c.from_residual.result c.from_residual.ensures.1 in
    let test = c.loop-space-test.true in
    let all : i + 1 + left ≡ c.args.count = omega (arith, test) in
    let whole = ap (λ t. t ++ replicate left 32) (replicate_more i 32) ∙ replicate-append-replicate (i + 1) left 32 ∙ ap (λ n. replicate n 32) all in
    rw (p.1, p.2) (retold whole (stops (replicate left 32) (goes_on g.met.O.Out.rest_goes_on c.loop-space.invariant c.in_err-put.ensures) refl))
