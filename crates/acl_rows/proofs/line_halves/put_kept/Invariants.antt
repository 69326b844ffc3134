use Rattle.std.proofs.Common.{◌++◌, flat_map, take}
use Rattle.acl_text.specs.Puts.{Puts}
use Rattle.acl_text.proofs.Putting.{done}
use Rattle.acl_rows.specs.LineHalfSteps.{text_of}
use Rattle.acl_rows.proofs.line_halves.put_kept.Given as goal

abbrev pub invariant-loop-back : goal.invariant-loop-back
invariant-loop-back g l =
    Puts g.O.Out l.initial.out l.out (flat_map (λ back. text_of l.initial.front ++ text_of back) (take l.back-index l.kept)) done
