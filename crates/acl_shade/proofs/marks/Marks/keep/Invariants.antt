-- Who has the numbers so far is left.
use Rattle.std.proofs.Common.{◌≡◌, ℕ, ◌*◌, ◌-◌, ◌<◌, ◌≤◌, true, length, slice_index}
use Rattle.acl_shade.specs.Sifting.{RowHas}
use Rattle.acl_shade.specs.Marking.{KeepsBeside}
use Rattle.acl_shade.proofs.marks.Marks.keep.Given as goal

abbrev pub invariant-loop-asking : goal.invariant-loop-asking
invariant-loop-asking l = record {
  behind : l.from ≤ l.at;
  asked : l.asking ≡ true → l.asks ≡ true;
  beside : KeepsBeside l.term l.self.width l.fn.left l.left;
  kept : (e : ℕ) → e < 64 * l.self.width
      → (l.asks ≡ true → (k : ℕ) → l.from ≤ k → k < length l.self.points.items
      → slice_index l.self.points.items k ≤ l.high → RowHas l.self.width l.self.rows.items k e)
      → RowHas l.self.width l.fn.left l.term e → RowHas l.self.width l.left l.term e;
}

abbrev pub decreases-loop-asking : goal.decreases-loop-asking
decreases-loop-asking l = length l.self.points.items - l.at
