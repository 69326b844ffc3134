use Rattle.std.proofs.Common.{◌≡◌, ◌++◌, map}
use Rattle.acl_sets.specs.declared.sets.Range.{Range}
use Rattle.acl_dead.proofs.cuts.low_ends.Given as goal

abbrev pub invariant-loop-range : goal.invariant-loop-range
invariant-loop-range l =
    l.out.items ++ map (λ (r : Range). r.low) l.range-iterator ≡ map (λ (r : Range). r.low) l.fn.ranges
