use Rattle.std.proofs.Common.{◌≡◌, ◌<◌, ◌≤◌, ℕ, List, [], ◌∷◌, ◌++◌, length, ap, sym, subst, ◌∙◌, arith}
use Rattle.std.proofs.lemmas.List.{length-append}
use Rattle.acl_naming.specs.declared.naming_items.Item.{Item}
use Rattle.acl_naming.specs.GraphSteps.{targets}
use Rattle.acl_naming.specs.Rows.{Ascend, rows_of}
use Rattle.acl_naming.proofs.GraphLaws.{row_added}
use Rattle.acl_naming.proofs.RowLaws.{ascend_more, row_behind}
use Rattle.acl_naming.proofs.links.Links.of_table.Goals as goal

-- the new list begins at the end of the others
begins_are : (bs ps shown new : List ℕ) → shown ≡ ps → new ≡ bs ++ length shown ∷ [] → new ≡ bs ++ length ps ∷ []
begins_are bs ps shown new same e = e ∙ ap (λ (t : List ℕ). bs ++ length t ∷ []) same

ascends : (bs ps new row more : List ℕ) → new ≡ bs ++ length ps ∷ [] → more ≡ ps ++ row → Ascend bs (length ps) → Ascend new (length more)
ascends bs ps new row more e grown h =
    let longer : length ps ≤ length more = omega (arith, ap (λ (t : List ℕ). length t) grown, length-append ps row) in
    subst (λ (t : List ℕ). Ascend t (length more)) (sym e) (ascend_more bs (length ps) (length more) h longer)

pub loop-i-preserved : goal.loop-i-preserved
loop-i-preserved c =
    let base = c.args.table.now in
    let i = c.loop-i.i in
    let bs = c.loop-i.begins in
    let ps = c.loop-i.places in
    let row = targets base c.items_at.result.now in
    let within : i < length base = omega (arith, c.len-i-end.ensures) in
    let begun : c.push.new.self ≡ bs ++ length ps ∷ [] =
    begins_are bs ps c.as_slice.result.now c.push.new.self c.as_slice.ensures c.in_ok-push.ensures.ok in
    let added : rows_of c.push.new.self c.push_links.new.places ≡ rows_of bs ps ++ row ∷ [] =
    ap (λ (t : List ℕ). rows_of t c.push_links.new.places) begun ∙ ap (rows_of (bs ++ length ps ∷ [])) c.in_ok-push_links.ensures
    ∙ row_behind bs ps row c.loop-i.invariant.laid in
    record {
      laid = ascends bs ps c.push.new.self row c.push_links.new.places begun c.in_ok-push_links.ensures c.loop-i.invariant.laid;
      goes = row_added base i (rows_of bs ps) (rows_of c.push.new.self c.push_links.new.places) row within
          (ap (λ (items : List Item). targets base items) c.items_at.ensures) added c.loop-i.invariant.goes;
    }
