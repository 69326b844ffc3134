use Rattle.std.proofs.Common.{◌≡◌, ℕ, List, false, replicate, rules, sym, subst}
use Rattle.acl_dead.specs.PlaceSteps.{has}
use Rattle.acl_dead.proofs.PlaceFacts.{has-zeros}
use Rattle.acl_dead.proofs.places.Places.empty.Goals as goal

pub returns-clause-exact : goal.returns-clause-exact
returns-clause-exact c = λ b.
    let e : c.in_ok-vec.field-0.items ≡ replicate c.div_ceil.result 0 = search rules in
    subst (λ (ws : List ℕ). has ws b ≡ false) (sym e) (has-zeros c.div_ceil.result b)
