-- What is left of the ranges is still to be measured.
use Rattle.std.proofs.Common.{◌≡◌, ℕ, ◌+◌, ◌^◌, ◌%◌}
use Rattle.std.specs.List.{fold}
use Rattle.acl_sets.specs.declared.sets.Range.{Range}
use Rattle.acl_sets.specs.Ranges.{IsNormal}
use Rattle.acl_shade.specs.Sizes.{size_of, sum_of}
use Rattle.acl_shade.proofs.sizes.measure_of.Given as goal

abbrev pub invariant-loop-range : goal.invariant-loop-range
invariant-loop-range l = record {
  size : l.size + size_of l.range-iterator ≡ size_of l.set.ranges;
  sum : fold (λ sum (r : Range). (sum + r.low) % 2 ^ 64) l.sum l.range-iterator ≡ sum_of l.set.ranges;
  floor : ℕ;
  normal : IsNormal floor l.set.top l.range-iterator;
}
