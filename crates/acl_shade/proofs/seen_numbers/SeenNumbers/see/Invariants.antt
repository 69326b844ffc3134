-- The numbers so far are seen, and a new one stands among them where one is told.
use Rattle.std.proofs.Common.{◌≡◌, ℕ, ◌<◌, ◌≤◌, ◌-◌, true, length}
use Rattle.acl_shade.specs.SeenNumbers.{HasNewFrom, IsSeen, SeesMore}
use Rattle.acl_shade.proofs.seen_numbers.SeenNumbers.see.Given as goal

abbrev pub invariant-loop-at : goal.invariant-loop-at
invariant-loop-at l = record {
  more : SeesMore l.fn.self l.self;
  seen : (k : ℕ) → l.from ≤ k → k < l.at → IsSeen l.self k;
  behind : l.from ≤ l.at;
  fresh : l.is_new ≡ true → HasNewFrom l.from l.high l.fn.self;
}

abbrev pub decreases-loop-at : goal.decreases-loop-at
decreases-loop-at l = length l.self.points.items - l.at
