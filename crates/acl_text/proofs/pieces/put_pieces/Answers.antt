use Rattle.std.proofs.Common.{List, ℕ, [], ◌+◌, ◌<◌, length, map, drop, refl, arith}
use Rattle.std.specs.Borrow.{Bor}
use Rattle.std.proofs.lemmas.Result.{err_from_is_err_and}
use Rattle.acl_text.specs.Output.{joined}
use Rattle.acl_text.proofs.Putting.{goes_on, stops, joined-split}
use Rattle.acl_text.proofs.pieces.put_pieces.Goals as goal

pub returns-in_err-put : goal.returns-in_err-put
returns-in_err-put g c =
    let none : Bor (List ℕ) = record { ref_ptr = (0, 0); now = [] } in
    let pieces = c.args.pieces.now in
    let i = c.loop-piece.piece-index in
    let p = err_from_is_err_and c.from_residual.result c.from_residual.ensures.1 in
    let within : i < length pieces = omega arith in
    rw (p.1, p.2, joined-split pieces i none within)
    (stops (joined (map (λ x. x.now) (drop (i + 1) pieces))) (goes_on g.met.O.Out.rest_goes_on c.loop-piece.invariant c.in_err-put.ensures) refl)
