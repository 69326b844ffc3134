use Rattle.std.proofs.Common.{List, [], ◌++◌, flat_map, length, refl, ap, arith}
use Rattle.std.proofs.lemmas.Result.{err_from_is_err_and}
use Rattle.acl_text.proofs.Putting.{goes_on, puts-nothing, stops}
use Rattle.acl_rows.proofs.PutLaws.{all_put, first_text, one_put, retold}
use Rattle.acl_rows.proofs.line_halves.put_each.Goals as goal

pub loop-first-init : goal.loop-first-init
loop-first-init g c =
    let f = λ (a : g.row.A-Item.Denot). flat_map (λ b. g.F.LineHalves.front c.args.form.now a ++ g.F.LineHalves.back c.args.form.now b) (g.B.Listed.items c.args.seconds.now) in
    record {
      text = [];
      put = puts-nothing c.args.out.now g.met.O.Out.rest_same c.requires.open;
      whole = ap (flat_map f) c.copy-rest.ensures;
    }

pub put_lines_of-requires-clause-open : goal.put_lines_of-requires-clause-open
put_lines_of-requires-clause-open g c = c.loop-first.invariant.put.opened

pub loop-first-smaller : goal.loop-first-smaller
loop-first-smaller g c = omega (arith, ap (λ (xs : List g.row.A-Item.Denot). length xs) c.in-Some.ensures.some)

pub loop-first-preserved : goal.loop-first-preserved
loop-first-preserved g c =
    let f = λ (a : g.row.A-Item.Denot). flat_map (λ b. g.F.LineHalves.front c.args.form.now a ++ g.F.LineHalves.back c.args.form.now b) (g.B.Listed.items c.args.seconds.now) in
    let old = g.A.Listed.items c.loop-first.rest in
    let new = g.A.Listed.items c.next.new.self in
    let held = c.loop-first.invariant in
    record {
      text = held.text ++ f c.in-Some.first;
      put = goes_on g.met.O.Out.rest_goes_on held.put c.in_ok-put_lines_of.ensures;
      whole = one_put held.text (f c.in-Some.first) (flat_map f new) (flat_map f old) (flat_map f (g.A.Listed.items c.args.firsts.now)) held.whole
          (first_text f old new c.in-Some.first c.in-Some.ensures.some);
    }

pub returns-in_err-put_lines_of : goal.returns-in_err-put_lines_of
returns-in_err-put_lines_of g c =
    let f = λ (a : g.row.A-Item.Denot). flat_map (λ b. g.F.LineHalves.front c.args.form.now a ++ g.F.LineHalves.back c.args.form.now b) (g.B.Listed.items c.args.seconds.now) in
    let old = g.A.Listed.items c.loop-first.rest in
    let new = g.A.Listed.items c.next.new.self in
    let held = c.loop-first.invariant in
    let p = err_from_is_err_and c.from_residual.result c.from_residual.ensures.1 in
    let whole = one_put held.text (f c.in-Some.first) (flat_map f new) (flat_map f old) (flat_map f (g.A.Listed.items c.args.firsts.now)) held.whole
    (first_text f old new c.in-Some.first c.in-Some.ensures.some) in
    rw (p.1, p.2) (retold whole (stops (flat_map f new) (goes_on g.met.O.Out.rest_goes_on held.put c.in_err-put_lines_of.ensures) refl))

pub returns : goal.returns
returns g c =
    let f = λ (a : g.row.A-Item.Denot). flat_map (λ b. g.F.LineHalves.front c.args.form.now a ++ g.F.LineHalves.back c.args.form.now b) (g.B.Listed.items c.args.seconds.now) in
    let held = c.loop-first.invariant in
    retold (all_put held.text (flat_map f (g.A.Listed.items c.loop-first.rest)) (flat_map f (g.A.Listed.items c.args.firsts.now)) held.whole
    (ap (flat_map f) c.in_default.ensures.none.0)) held.put
