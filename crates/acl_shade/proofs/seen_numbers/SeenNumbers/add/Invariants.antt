-- The numbers of the ranges so far are seen, and one of them is new where that is told.
use Rattle.std.proofs.Common.{◌≡◌, ℕ, ◌<◌, true, length, slice_index, slice_index_or}
use Rattle.acl_sets.specs.declared.sets.Range.{Range}
use Rattle.acl_sets.specs.Ranges.{inside}
use Rattle.acl_shade.specs.SeenNumbers.{HasNew, IsSeen, SeesMore}
use Rattle.acl_shade.proofs.seen_numbers.SeenNumbers.add.Given as goal

abbrev pub invariant-loop-i : goal.invariant-loop-i
invariant-loop-i l = record {
  more : SeesMore l.fn.self l.self;
  seen : (r k : ℕ) (d : Range) → r < l.i → k < length l.self.points.items
      → inside (slice_index_or l.ranges r d) (slice_index l.self.points.items k) ≡ true → IsSeen l.self k;
  fresh : l.has_new ≡ true → HasNew l.fn.self l.set;
}
