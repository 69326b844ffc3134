use Rattle.std.proofs.Common.{◌≡◌, ℕ, List, ◌++◌, flat_map, length}
use Rattle.acl_text.specs.Puts.{Puts}
use Rattle.acl_text.proofs.Putting.{done}
use Rattle.acl_rows.proofs.item_lists.put_items.Given as goal

abbrev pub invariant-loop-item : goal.invariant-loop-item
invariant-loop-item g l = record {
  text : List ℕ;
  put : Puts g.O.Out l.initial.out l.out text done;
  whole : text ++ flat_map (λ x. l.separator ++ g.F.WordForm.item_text l.form x) (g.L.Listed.items l.rest)
      ≡ flat_map (λ x. l.separator ++ g.F.WordForm.item_text l.form x) (g.L.Listed.items l.items);
}

abbrev pub decreases-loop-item : goal.decreases-loop-item
decreases-loop-item g l = length (g.L.Listed.items l.rest)
