-- The terms so far are marked, and what is left keeps those that lie within.
use Rattle.std.proofs.Common.{◌≡◌, ℕ, ◌<◌, length, slice_index_or}
use Rattle.acl_terms.specs.declared.terms.Term.{Term}
use Rattle.acl_shade.specs.Sifting.{AreMarked, KeepsWithin, part_of}
use Rattle.acl_shade.specs.Marking.{AreMarks}
use Rattle.acl_shade.proofs.sifting.sift.Given as goal

abbrev pub invariant-loop-place : goal.invariant-loop-place
invariant-loop-place l = record {
  are : AreMarks l.marks;
  width : l.marks.width ≡ l.width;
  marked : (i : ℕ) (d : Term) → i < l.place
      → AreMarked l.width l.marks.points.items l.marks.rows.items i (part_of l.part (slice_index_or l.terms i d));
  size : length l.left ≡ length l.fn.left;
  keeps : KeepsWithin l.width l.part l.terms l.fn.left l.left;
}
