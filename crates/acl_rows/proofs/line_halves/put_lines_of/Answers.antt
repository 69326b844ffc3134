use Rattle.std.proofs.Common.{◌++◌, flat_map, refl, ap, sym, ◌∙◌}
use Rattle.std.proofs.lemmas.Result.{err_from_is_err_and}
use Rattle.acl_text.proofs.Putting.{goes_on, stops}
use Rattle.acl_rows.specs.LineHalfSteps.{text_of}
use Rattle.acl_rows.proofs.HalfLaws.{lines_in_two}
use Rattle.acl_rows.proofs.PutLaws.{retold}
use Rattle.acl_rows.proofs.line_halves.put_lines_of.Goals as goal

pub returns-in_err-put_kept : goal.returns-in_err-put_kept
returns-in_err-put_kept g c =
    let front = g.F.LineHalves.front c.args.form.now c.args.first.now in
    let back = g.F.LineHalves.back c.args.form.now in
    let lines = flat_map (λ b. front ++ back b) (g.B.Listed.items c.args.left.now) in
    let held = c.begin_line.ensures (sym c.is_open.ensures ∙ c.if-not-is_open.false) in
    let whole = ap (λ t. flat_map (λ k. t ++ text_of k) c.args.kept.now ++ lines) held
    ∙ lines_in_two front back (g.B.Listed.items c.args.seconds.now) (g.B.Listed.items c.args.left.now) c.args.kept.now c.requires.halves in
    let p = err_from_is_err_and c.from_residual.result c.from_residual.ensures.1 in
    rw (p.1, p.2) (retold whole (stops lines c.in_err-put_kept.ensures refl))

pub returns : goal.returns
returns g c =
    let front = g.F.LineHalves.front c.args.form.now c.args.first.now in
    let back = g.F.LineHalves.back c.args.form.now in
    let lines = flat_map (λ b. front ++ back b) (g.B.Listed.items c.args.left.now) in
    let held = c.begin_line.ensures (sym c.is_open.ensures ∙ c.if-not-is_open.false) in
    let whole = ap (λ t. flat_map (λ k. t ++ text_of k) c.args.kept.now ++ lines) held
    ∙ lines_in_two front back (g.B.Listed.items c.args.seconds.now) (g.B.Listed.items c.args.left.now) c.args.kept.now c.requires.halves in
    retold whole (goes_on g.met.O.Out.rest_goes_on c.in_ok-put_kept.ensures c.put_behind-2.ensures)
