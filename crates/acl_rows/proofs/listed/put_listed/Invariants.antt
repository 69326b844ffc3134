use Rattle.std.proofs.Common.{◌≡◌, ℕ, List, ◌++◌, flat_map, length}
use Rattle.acl_text.specs.Puts.{Puts}
use Rattle.acl_text.proofs.Putting.{done}
use Rattle.acl_rows.specs.Rows.{text_of_rows}
use Rattle.acl_rows.proofs.listed.put_listed.Given as goal

abbrev pub invariant-loop-item : goal.invariant-loop-item
invariant-loop-item g l = record {
  text : List ℕ;
  put : Puts g.O.Out l.initial.out l.out text done;
  whole : text ++ text_of_rows (flat_map (g.F.RowForm.item_rows l.form) (g.L.Listed.items l.rest))
      ≡ text_of_rows (flat_map (g.F.RowForm.item_rows l.form) (g.L.Listed.items l.items));
}

abbrev pub decreases-loop-item : goal.decreases-loop-item
decreases-loop-item g l = length (g.L.Listed.items l.rest)
