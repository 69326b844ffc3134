use Rattle.std.proofs.Common.{List, [], ◌++◌, flat_map, length, refl, ap, arith}
use Rattle.std.proofs.lemmas.Result.{err_from_is_err_and}
use Rattle.acl_text.proofs.Putting.{goes_on, puts-nothing, stops}
use Rattle.acl_rows.proofs.PutLaws.{all_put, first_text, one_put, retold}
use Rattle.acl_rows.proofs.item_lists.put_items.Goals as goal

pub loop-item-init : goal.loop-item-init
loop-item-init g c =
    let f = λ (e : g.row.L-Item.Denot). c.args.separator.now ++ g.F.WordForm.item_text c.args.form.now e in
    record {
      text = [];
      put = puts-nothing c.args.out.now g.met.O.Out.rest_same c.requires;
      whole = ap (flat_map f) c.copy-rest.ensures;
    }

pub put_item_behind-requires : goal.put_item_behind-requires
put_item_behind-requires g c = c.loop-item.invariant.put.opened

pub loop-item-smaller : goal.loop-item-smaller
loop-item-smaller g c = omega (arith, ap (λ (xs : List g.row.L-Item.Denot). length xs) c.in-Some.ensures.some)

pub loop-item-preserved : goal.loop-item-preserved
loop-item-preserved g c =
    let f = λ (e : g.row.L-Item.Denot). c.args.separator.now ++ g.F.WordForm.item_text c.args.form.now e in
    let old = g.L.Listed.items c.loop-item.rest in
    let new = g.L.Listed.items c.next.new.self in
    let held = c.loop-item.invariant in
    record {
      text = held.text ++ f c.in-Some.item;
      put = goes_on g.met.O.Out.rest_goes_on held.put c.in_ok-put_item_behind.ensures;
      whole = one_put held.text (f c.in-Some.item) (flat_map f new) (flat_map f old) (flat_map f (g.L.Listed.items c.args.items.now)) held.whole
          (first_text f old new c.in-Some.item c.in-Some.ensures.some);
    }

pub returns-in_err-put_item_behind : goal.returns-in_err-put_item_behind
returns-in_err-put_item_behind g c =
    let f = λ (e : g.row.L-Item.Denot). c.args.separator.now ++ g.F.WordForm.item_text c.args.form.now e in
    let old = g.L.Listed.items c.loop-item.rest in
    let new = g.L.Listed.items c.next.new.self in
    let held = c.loop-item.invariant in
    let p = err_from_is_err_and c.from_residual.result c.from_residual.ensures.1 in
    let whole = one_put held.text (f c.in-Some.item) (flat_map f new) (flat_map f old) (flat_map f (g.L.Listed.items c.args.items.now)) held.whole
    (first_text f old new c.in-Some.item c.in-Some.ensures.some) in
    rw (p.1, p.2) (retold whole (stops (flat_map f new) (goes_on g.met.O.Out.rest_goes_on held.put c.in_err-put_item_behind.ensures) refl))

pub returns : goal.returns
returns g c =
    let f = λ (e : g.row.L-Item.Denot). c.args.separator.now ++ g.F.WordForm.item_text c.args.form.now e in
    let held = c.loop-item.invariant in
    retold (all_put held.text (flat_map f (g.L.Listed.items c.loop-item.rest)) (flat_map f (g.L.Listed.items c.args.items.now)) held.whole
    (ap (flat_map f) c.in_default.ensures.none.0)) held.put
