-- The numbers of the terms so far are seen, and none of these terms is shaded.
use Rattle.std.proofs.Common.{ℕ, ◌<◌, slice_index_or}
use Rattle.acl_terms.specs.declared.terms.Term.{Term}
use Rattle.acl_shade.specs.SeenNumbers.{AreNumbers, IsSeenAll}
use Rattle.acl_shade.specs.Sifting.{NoneShadesTo, part_of}
use Rattle.acl_shade.proofs.apart.each_has_new.Given as goal

abbrev pub invariant-loop-term : goal.invariant-loop-term
invariant-loop-term l = record {
  are : AreNumbers l.numbers;
  seen : (i : ℕ) (d : Term) → i < l.term-index → IsSeenAll l.numbers (part_of l.part (slice_index_or l.terms i d));
  none : NoneShadesTo l.term-index l.terms;
}
