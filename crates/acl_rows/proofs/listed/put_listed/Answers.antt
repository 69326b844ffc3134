use Rattle.std.proofs.Common.{List, [], ◌++◌, flat_map, length, refl, ap, arith}
use Rattle.std.proofs.lemmas.Result.{err_from_is_err_and}
use Rattle.acl_text.proofs.Putting.{goes_on, puts-nothing, stops}
use Rattle.acl_rows.specs.Rows.{text_of_rows}
use Rattle.acl_rows.proofs.PutLaws.{all_put, first_rows, one_put, retold}
use Rattle.acl_rows.proofs.listed.put_listed.Goals as goal

pub loop-item-init : goal.loop-item-init
loop-item-init g c = record {
  text = [];
  put = puts-nothing c.args.out.now g.met.O.Out.rest_same c.requires;
  whole = ap (λ xs. text_of_rows (flat_map (g.F.RowForm.item_rows c.args.form.now) xs)) c.copy-rest.ensures;
}

pub put_item-requires : goal.put_item-requires
put_item-requires g c = c.loop-item.invariant.put.opened

pub loop-item-smaller : goal.loop-item-smaller
loop-item-smaller g c = omega (arith, ap (λ (xs : List g.row.L-Item.Denot). length xs) c.in-Some.ensures.some)

pub loop-item-preserved : goal.loop-item-preserved
loop-item-preserved g c =
    let f = g.F.RowForm.item_rows c.args.form.now in
    let old = g.L.Listed.items c.loop-item.rest in
    let new = g.L.Listed.items c.next.new.self in
    let held = c.loop-item.invariant in
    record {
      text = held.text ++ text_of_rows (f c.in-Some.item);
      put = goes_on g.met.O.Out.rest_goes_on held.put c.in_ok-put_item.ensures;
      whole = one_put held.text (text_of_rows (f c.in-Some.item)) (text_of_rows (flat_map f new)) (text_of_rows (flat_map f old))
          (text_of_rows (flat_map f (g.L.Listed.items c.args.items.now))) held.whole (first_rows f old new c.in-Some.item c.in-Some.ensures.some);
    }

pub returns-in_err-put_item : goal.returns-in_err-put_item
returns-in_err-put_item g c =
    let f = g.F.RowForm.item_rows c.args.form.now in
    let old = g.L.Listed.items c.loop-item.rest in
    let new = g.L.Listed.items c.next.new.self in
    let held = c.loop-item.invariant in
    let rest = text_of_rows (flat_map f new) in
    let p = err_from_is_err_and c.from_residual.result c.from_residual.ensures.1 in
    let whole = one_put held.text (text_of_rows (f c.in-Some.item)) rest (text_of_rows (flat_map f old))
    (text_of_rows (flat_map f (g.L.Listed.items c.args.items.now))) held.whole (first_rows f old new c.in-Some.item c.in-Some.ensures.some) in
    rw (p.1, p.2) (retold whole (stops rest (goes_on g.met.O.Out.rest_goes_on held.put c.in_err-put_item.ensures) refl))

pub returns : goal.returns
returns g c =
    let f = g.F.RowForm.item_rows c.args.form.now in
    let held = c.loop-item.invariant in
    let none = ap (λ xs. text_of_rows (flat_map f xs)) c.in_default.ensures.none.0 in
    retold (all_put held.text (text_of_rows (flat_map f (g.L.Listed.items c.loop-item.rest)))
    (text_of_rows (flat_map f (g.L.Listed.items c.args.items.now))) held.whole none) held.put
