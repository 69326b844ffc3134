-- The numbers of the ranges so far are marked, and who has all of them is left.
use Rattle.std.proofs.Common.{◌≡◌, ℕ, ◌*◌, ◌<◌, true, length, slice_index, slice_index_or}
use Rattle.acl_sets.specs.declared.sets.Range.{Range}
use Rattle.acl_sets.specs.Ranges.{inside}
use Rattle.acl_shade.specs.Sifting.{AreMarked, RowHas}
use Rattle.acl_shade.specs.Marking.{KeepsBeside, MarksMore}
use Rattle.acl_shade.proofs.marks.Marks.pass.Given as goal

abbrev pub invariant-loop-i : goal.invariant-loop-i
invariant-loop-i l = record {
  more : MarksMore l.fn.self l.self;
  marked : (r k : ℕ) (d : Range) → r < l.i → k < length l.self.points.items
      → inside (slice_index_or l.ranges r d) (slice_index l.self.points.items k) ≡ true
      → RowHas l.self.width l.self.rows.items k l.term;
  beside : KeepsBeside l.term l.fn.self.width l.fn.left l.left;
  asked : l.asks ≡ true → l.is_asked ≡ true;
  kept : (e : ℕ) → e < 64 * l.fn.self.width
      → (l.is_asked ≡ true → AreMarked l.fn.self.width l.fn.self.points.items l.fn.self.rows.items e l.set)
      → RowHas l.fn.self.width l.fn.left l.term e → RowHas l.fn.self.width l.left l.term e;
}
