use Rattle.std.proofs.Common.{flat_map, take}
use Rattle.acl_text.specs.Puts.{Puts}
use Rattle.acl_text.proofs.Putting.{done}
use Rattle.acl_rows.specs.Rows.{text_of_rows}
use Rattle.acl_rows.proofs.rows.put_each.Given as goal

abbrev pub invariant-loop-item : goal.invariant-loop-item
invariant-loop-item g l =
    Puts g.O.Out l.initial.out l.out
    (text_of_rows (flat_map (g.F.RowForm.item_rows l.form) (take l.item-index l.items))) done
