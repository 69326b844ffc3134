use Rattle.std.proofs.Common.{◌≡◌, [], All, drop, take}
use Rattle.acl_platform.specs.Limits.{first_limit}
use Rattle.acl_platform.specs.NameSlotSteps.{IsSeen}
use Rattle.acl_platform.proofs.limits.first_limit.Given as goal

abbrev pub invariant-loop-place : goal.invariant-loop-place
invariant-loop-place g l =
    let limit = g.L.RuleLimits.limit in
    (first_limit limit (take l.place l.rules) (drop l.place l.rules) ≡ first_limit limit [] l.rules)
    × All (IsSeen l.names) (take l.place l.rules)
