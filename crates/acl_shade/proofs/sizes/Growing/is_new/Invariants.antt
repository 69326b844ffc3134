-- None of the terms so far has the same numbers.
use Rattle.std.proofs.Common.{◌≡◌, ℕ, ◌-◌, ◌<◌, ◌≤◌, length}
use Rattle.acl_terms.specs.declared.terms.Term.{Term}
use Rattle.acl_shade.specs.Sifting.{part_of}
use Rattle.acl_shade.specs.Sizes.{ranges_at}
use Rattle.acl_shade.proofs.sizes.Growing.is_new.Given as goal

abbrev pub invariant-loop-at : goal.invariant-loop-at
invariant-loop-at l = (i : ℕ) (d : Term) → l.self.from ≤ i → i < l.at
    → (part_of l.part l.term).ranges ≡ ranges_at l.part l.terms i d → ⊥

abbrev pub decreases-loop-at : goal.decreases-loop-at
decreases-loop-at l = length l.self.sums.items - l.at
