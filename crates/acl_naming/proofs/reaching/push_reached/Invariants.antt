use Rattle.std.proofs.Common.{take, ◌∷◌}
use Rattle.acl_naming.specs.LookupSteps.{Collects, any_at}
use Rattle.acl_naming.proofs.reaching.push_reached.Given as goal

abbrev pub invariant-loop-place : goal.invariant-loop-place
invariant-loop-place l = Collects l.wanted (any_at l.table (l.index ∷ take l.place-index l.places)) l.fn.out.items l.out.items
