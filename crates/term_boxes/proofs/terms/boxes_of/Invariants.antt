-- The boxes on the pairs of sides that the loop has seen stand.
use Rattle.std.proofs.Common.{◌≡◌, flat_map, take}
use Rattle.term_boxes.specs.TermBoxes.{pair_box, passing}
use Rattle.term_boxes.proofs.terms.boxes_of.Given as goal

abbrev pub invariant-loop-pair : goal.invariant-loop-pair
invariant-loop-pair l =
    l.out ≡ flat_map (λ pair. passing l.term.option l.mode l.term.dport_named (pair_box l.family l.term pair))
    (take l.pair-index l.pairs)
