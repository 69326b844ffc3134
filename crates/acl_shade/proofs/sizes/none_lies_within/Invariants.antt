-- The terms so far get no smaller, and none of them is shaded.
use Rattle.std.proofs.Common.{◌≡◌, length}
use Rattle.acl_shade.specs.Sifting.{NoneShadesTo}
use Rattle.acl_shade.specs.Sizes.{AreGrown}
use Rattle.acl_shade.proofs.sizes.none_lies_within.Given as goal

abbrev pub invariant-loop-term : goal.invariant-loop-term
invariant-loop-term l = record {
  count : length l.growing.sums.items ≡ l.term-index;
  grown : AreGrown l.part l.terms l.growing;
  none : NoneShadesTo l.term-index l.terms;
}
