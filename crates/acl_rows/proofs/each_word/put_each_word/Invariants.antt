use Rattle.std.proofs.Common.{map, take}
use Rattle.acl_text.specs.Puts.{Puts}
use Rattle.acl_text.proofs.Putting.{done}
use Rattle.acl_rows.specs.Rows.{spaced}
use Rattle.acl_rows.proofs.each_word.put_each_word.Given as goal

abbrev pub invariant-loop-item : goal.invariant-loop-item
invariant-loop-item g l =
    Puts g.O.Out l.initial.out l.out (spaced (map (g.F.WordForm.item_text l.form) (take l.item-index l.items))) done
