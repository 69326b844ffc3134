use Rattle.std.proofs.Common.{◌≡◌, drop}
use Rattle.std.specs.Ordering.{is_lt}
use Rattle.acl_rows.specs.ApartSteps.{are_rising}
use Rattle.acl_rows.proofs.apart.are_rising.Given as goal

abbrev pub invariant-loop-i : goal.invariant-loop-i
invariant-loop-i g l =
    let cmp = g.K.Ord.cmp in
    are_rising (λ x y. is_lt (cmp x y)) (drop l.i l.keys) ≡ are_rising (λ x y. is_lt (cmp x y)) l.keys
