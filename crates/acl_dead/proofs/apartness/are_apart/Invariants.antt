use Rattle.std.proofs.Common.{◌≡◌, drop}
use Rattle.std.specs.List.{list_any}
use Rattle.acl_dead.specs.ApartSteps.{apart, apart_along}
use Rattle.acl_dead.proofs.apartness.are_apart.Given as goal

abbrev pub invariant-loop-coordinate : goal.invariant-loop-coordinate
invariant-loop-coordinate l =
    list_any (λ c. apart_along c l.family l.term l.other) (drop l.coordinate-index l.coordinate-items)
    ≡ apart l.family l.term l.other
