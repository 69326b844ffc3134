use Rattle.std.proofs.Common.{List, [], ◌++◌, flat_map, length, refl, ap, arith}
use Rattle.std.proofs.lemmas.Result.{err_from_is_err_and}
use Rattle.acl_text.proofs.Putting.{goes_on, puts-nothing, stops}
use Rattle.acl_rows.proofs.PutLaws.{all_put, first_text, one_put, retold}
use Rattle.acl_rows.proofs.line_halves.put_behind.Goals as goal

pub loop-second-init : goal.loop-second-init
loop-second-init g c =
    let f = λ (b : g.row.B-Item.Denot). g.F.LineHalves.front c.args.form.now c.args.first.now ++ g.F.LineHalves.back c.args.form.now b in
    record {
      text = [];
      put = puts-nothing c.args.out.now g.met.O.Out.rest_same c.requires.open;
      whole = ap (flat_map f) c.copy-rest.ensures;
      front = c.requires.front;
    }

pub put_line-requires-clause-open : goal.put_line-requires-clause-open
put_line-requires-clause-open g c = c.loop-second.invariant.put.opened

pub put_line-requires-clause-front : goal.put_line-requires-clause-front
put_line-requires-clause-front g c = c.loop-second.invariant.front

pub loop-second-smaller : goal.loop-second-smaller
loop-second-smaller g c = omega (arith, ap (λ (xs : List g.row.B-Item.Denot). length xs) c.in-Some.ensures.some)

pub loop-second-preserved : goal.loop-second-preserved
loop-second-preserved g c =
    let f = λ (b : g.row.B-Item.Denot). g.F.LineHalves.front c.args.form.now c.args.first.now ++ g.F.LineHalves.back c.args.form.now b in
    let old = g.B.Listed.items c.loop-second.rest in
    let new = g.B.Listed.items c.next.new.self in
    let held = c.loop-second.invariant in
    record {
      text = held.text ++ f c.in-Some.second;
      put = goes_on g.met.O.Out.rest_goes_on held.put c.in_ok-put_line.ensures.put;
      whole = one_put held.text (f c.in-Some.second) (flat_map f new) (flat_map f old) (flat_map f (g.B.Listed.items c.args.seconds.now)) held.whole
          (first_text f old new c.in-Some.second c.in-Some.ensures.some);
      front = c.in_ok-put_line.ensures.front;
    }

pub returns-in_err-put_line : goal.returns-in_err-put_line
returns-in_err-put_line g c =
    let f = λ (b : g.row.B-Item.Denot). g.F.LineHalves.front c.args.form.now c.args.first.now ++ g.F.LineHalves.back c.args.form.now b in
    let old = g.B.Listed.items c.loop-second.rest in
    let new = g.B.Listed.items c.next.new.self in
    let held = c.loop-second.invariant in
    let p = err_from_is_err_and c.from_residual.result c.from_residual.ensures.1 in
    let whole = one_put held.text (f c.in-Some.second) (flat_map f new) (flat_map f old) (flat_map f (g.B.Listed.items c.args.seconds.now)) held.whole
    (first_text f old new c.in-Some.second c.in-Some.ensures.some) in
    rw (p.1, p.2) (retold whole (stops (flat_map f new) (goes_on g.met.O.Out.rest_goes_on held.put c.in_err-put_line.ensures.put) refl))

pub returns : goal.returns
returns g c =
    let f = λ (b : g.row.B-Item.Denot). g.F.LineHalves.front c.args.form.now c.args.first.now ++ g.F.LineHalves.back c.args.form.now b in
    let held = c.loop-second.invariant in
    retold (all_put held.text (flat_map f (g.B.Listed.items c.loop-second.rest)) (flat_map f (g.B.Listed.items c.args.seconds.now)) held.whole
    (ap (flat_map f) c.in_default.ensures.none.0)) held.put
