use Rattle.std.proofs.Common.{◌≡◌, ◌++◌, drop, flat_map, map}
use Rattle.acl_dead.specs.BlockSteps.{boxes_in, met_by}
use Rattle.term_boxes.specs.TermBoxes.{boxes_of}
use Rattle.acl_dead.proofs.blocking.push_earlier.Given as goal

abbrev pub invariant-loop-other : goal.invariant-loop-other
invariant-loop-other l =
    boxes_in l.out
    ++ flat_map (λ t. boxes_of l.family l.mode t) (met_by l.family l.term (map (λ t. t.now) (drop l.other-index l.earlier)))
    ≡ boxes_in l.fn.out
    ++ flat_map (λ t. boxes_of l.family l.mode t) (met_by l.family l.term (map (λ t. t.now) l.earlier))
