-- The boxes in which no packet is decided by a term.
use Rattle.std.specs.Prelude.{not, List, ◌++◌, flat_map, Vec}
use Rattle.std.specs.Global.{Global}
use Rattle.std.specs.List.{filter}
use Rattle.acl_packet.specs.declared.addresses.Family.{Family}
use Rattle.acl_terms.specs.Outcomes.{mode_of}
use Rattle.term_boxes.specs.declared.boxes.PacketBox.{PacketBox}
use Rattle.term_boxes.specs.Bars.{bars}
use Rattle.term_boxes.specs.TermBoxes.{boxes_of, failing_boxes}
use Rattle.acl_terms.specs.declared.terms.Term.{Term}
use Rattle.acl_dead.specs.ApartSteps.{apart}
use Rattle.acl_dead.specs.Deciding.{Question}

-- The boxes of all lists.
abbrev pub boxes_in : Vec (List PacketBox) Global → List PacketBox
boxes_in v = flat_map (λ bs. bs) v.items

-- Earlier terms that have nothing in common with the term keep nothing from it.
abbrev pub met_by : Family → Term → List Term → List Term
met_by f t ts = filter (λ u. not (apart f t u)) ts

abbrev pub blocks_of : Family → Question → List PacketBox
blocks_of f q = (bars f ++ failing_boxes f (mode_of q.target) q.term)
    ++ flat_map (λ t. boxes_of f (mode_of q.target) t) (met_by f q.term q.earlier)
