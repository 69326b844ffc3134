use Rattle.std.proofs.Common.{◌≡◌}
use Rattle.std.specs.List.{list_any}
use Rattle.acl_sets.specs.Ranges.{holds}
use Rattle.acl_terms.proofs.emptiness.begins_in.Given as goal

abbrev pub invariant-loop-range : goal.invariant-loop-range
invariant-loop-range l =
    list_any (λ r. holds l.set.ranges r.low) l.range-iterator ≡ list_any (λ r. holds l.set.ranges r.low) l.fn.ranges
