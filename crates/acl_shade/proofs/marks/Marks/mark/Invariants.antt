-- The numbers so far are marked.
use Rattle.std.proofs.Common.{ℕ, ◌<◌, ◌≤◌, ◌-◌, length}
use Rattle.acl_shade.specs.Sifting.{RowHas}
use Rattle.acl_shade.specs.Marking.{MarksMore}
use Rattle.acl_shade.proofs.marks.Marks.mark.Given as goal

abbrev pub invariant-loop-at : goal.invariant-loop-at
invariant-loop-at l = record {
  more : MarksMore l.fn.self l.self;
  marked : (k : ℕ) → l.from ≤ k → k < l.at → RowHas l.self.width l.self.rows.items k l.term;
}

abbrev pub decreases-loop-at : goal.decreases-loop-at
decreases-loop-at l = length l.self.points.items - l.at
