use Rattle.std.proofs.Common.{◌-◌, length}
use Rattle.acl_naming.proofs.WalkLaws.{IsListedWalk}
use Rattle.acl_naming.proofs.marking.follow_links.Given as goal

abbrev pub invariant-loop-done : goal.invariant-loop-done
invariant-loop-done l = IsListedWalk l.table l.index l.marks l.places.items l.done

abbrev pub decreases-loop-done : goal.decreases-loop-done
decreases-loop-done l = length l.table - l.done
