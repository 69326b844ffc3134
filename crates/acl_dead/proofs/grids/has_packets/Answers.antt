use Rattle.std.proofs.Common.{inr, sym, ◌∙◌}
use Rattle.acl_dead.proofs.DecisionLaws.{not_false}
use Rattle.acl_dead.proofs.grids.has_packets.Goals as goal

pub returns-then-covers-clause-no : goal.returns-then-covers-clause-no
returns-then-covers-clause-no c = λ h.
    let empty = not_false c.is_empty_in.result h in
    inr (sym c.is_empty_in.ensures.computed ∙ empty, c.is_empty_in.ensures.exact.0 empty)
