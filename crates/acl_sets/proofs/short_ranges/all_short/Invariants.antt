use Rattle.std.proofs.Common.{◌≡◌, ◌++◌, drop, map}
use Rattle.acl_sets.specs.Spans.{wide}
use Rattle.acl_sets.proofs.short_ranges.all_short.Given as goal

abbrev pub invariant-loop-range : goal.invariant-loop-range
invariant-loop-range l = map wide l.out.items ++ drop l.range-index l.ranges ≡ l.ranges
