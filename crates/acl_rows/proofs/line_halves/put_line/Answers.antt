use Rattle.std.proofs.Common.{◌++◌, append-nil, take, refl, ap, ◌∙◌}
use Rattle.std.proofs.lemmas.Option.{same_Some}
use Rattle.std.proofs.lemmas.Result.{err_from_is_err_and, on_ok_weaker}
use Rattle.acl_text.proofs.Putting.{goes_on, stops}
use Rattle.acl_rows.proofs.GatherLaws.{cut_back, no_shorter}
use Rattle.acl_rows.proofs.PutLaws.{retold}
use Rattle.acl_rows.proofs.line_halves.put_line.Goals as goal

pub cut_back-requires-in-Err : goal.cut_back-requires-in-Err
cut_back-requires-in-Err g c =
    let line = c.args.line.now in
    let front = c.in-Err.ensures.err in
    no_shorter c.end-end.result c.put_into.new.out.end c.put_into.new.out.bytes (take line.end line.bytes) _ front.1 c.end-end.ensures.size

pub returns-in_ok-put-in-Ok-clause-same : goal.returns-in_ok-put-in-Ok-clause-same
returns-in_ok-put-in-Ok-clause-same g c =
    let line = c.args.line.now in
    c.cut_back.ensures.text
    ∙ cut_back c.end-end.result c.put_into.new.out.end c.put_into.new.out.bytes (take line.end line.bytes) (g.P.Piece.text c.args.back.now)
    (same_Some _ _ c.in-Ok.ensures.ok) c.end-end.ensures.size
    ∙ append-nil (take line.end line.bytes)

pub returns-in_err-put-in-Err-clause-put : goal.returns-in_err-put-in-Err-clause-put
returns-in_err-put-in-Err-clause-put g c =
    let line = c.args.line.now in
    let front = c.in-Err.ensures.err in
    let same = c.as_slice-in-Err.ensures ∙ c.cut_back-in-Err.ensures.text
    ∙ cut_back c.end-end.result c.put_into.new.out.end c.put_into.new.out.bytes (take line.end line.bytes) _ front.1 c.end-end.ensures.size
    ∙ append-nil (take line.end line.bytes) in
    let p = err_from_is_err_and c.from_residual-in_err-put-in-Err.result c.from_residual-in_err-put-in-Err.ensures.1 in
    rw (p.1, p.2) (retold (ap (λ t. t ++ g.P.Piece.text c.args.back.now) same) (stops (g.P.Piece.text c.args.back.now) c.in_err-put-in-Err.ensures refl))

pub returns-in_ok-put-in-Err-clause-put : goal.returns-in_ok-put-in-Err-clause-put
returns-in_ok-put-in-Err-clause-put g c =
    let line = c.args.line.now in
    let front = c.in-Err.ensures.err in
    let same = c.as_slice-in-Err.ensures ∙ c.cut_back-in-Err.ensures.text
    ∙ cut_back c.end-end.result c.put_into.new.out.end c.put_into.new.out.bytes (take line.end line.bytes) _ front.1 c.end-end.ensures.size
    ∙ append-nil (take line.end line.bytes) in
    retold (ap (λ t. t ++ g.P.Piece.text c.args.back.now) same) (goes_on g.met.O.Out.rest_goes_on c.in_ok-put-in-Err.ensures c.put_into-in-Err.ensures)

pub returns-in_ok-put-in-Err-clause-same : goal.returns-in_ok-put-in-Err-clause-same
returns-in_ok-put-in-Err-clause-same g c =
    let line = c.args.line.now in
    let front = c.in-Err.ensures.err in
    let same = c.cut_back-in-Err.ensures.text
    ∙ cut_back c.end-end.result c.put_into.new.out.end c.put_into.new.out.bytes (take line.end line.bytes) _ front.1 c.end-end.ensures.size
    ∙ append-nil (take line.end line.bytes) in
    on_ok_weaker c.put_into-in-Err.result (λ _. same) c.put_into-in-Err.ensures.ok
