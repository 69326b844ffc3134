use Rattle.std.proofs.Common.{flat_map, take}
use Rattle.acl_text.specs.Puts.{Puts}
use Rattle.acl_text.proofs.Putting.{done}
use Rattle.acl_rows.specs.Rows.{text_of_rows}
use Rattle.acl_platform.specs.ChoiceSteps.{range_rows}
use Rattle.acl_platform.proofs.choices.put_ranges.Given as goal

abbrev pub invariant-loop-range : goal.invariant-loop-range
invariant-loop-range g l =
    Puts g.O.Out l.initial.out l.out
    (text_of_rows (flat_map (range_rows (g.F.RowForm.item_rows l.form)) (take l.range-index l.ranges))) done
