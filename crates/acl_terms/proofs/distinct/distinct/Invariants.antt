use Rattle.std.proofs.Common.{◌≡◌, ℕ, ◌||◌, length, drop}
use Rattle.acl_terms.specs.DistinctSteps.{AreMarked, has}
use Rattle.acl_terms.proofs.distinct.distinct.Given as goal

abbrev pub invariant-loop-number : goal.invariant-loop-number
invariant-loop-number l = record {
  marks : AreMarked l.seen l.out.items;
  long : length l.seen ≡ 256;
  same : (n : ℕ) → (has n l.out.items || has n (drop l.number-index l.numbers)) ≡ has n l.numbers;
}
