use Rattle.std.proofs.Common.{ap, sym, ◌∙◌}
use Rattle.acl_sets.specs.ComputableSets.{all_covered}
use Rattle.acl_sets.specs.HeldRanges.{slice_ranges}
use Rattle.acl_sets.specs.SweepSteps.{covered_walk}
use Rattle.acl_sets.proofs.TwoSets.{two_sets, at_sets, lies_in, subset-yes, subset-again}
use Rattle.acl_sets.proofs.sets.RangeSet.subset_of.Goals as goal

pub returns : goal.returns
returns c =
    let two = two_sets c.self.view_is c.other.view_is c.requires c.self.invariant.normal c.other.invariant.normal in
    let e = lies_in two _ (c.are_covered.ensures ∙ ap (λ z. covered_walk z (slice_ranges c.slices-2.result)) c.slices.ensures.list
    ∙ ap (λ z. covered_walk c.self.inside.list.ranges z) c.slices-2.ensures.list) in
    record {
      exact = (λ h. subset-yes two (sym e ∙ h), λ h. e ∙ subset-again two h);
      computed = e ∙ at_sets (λ z w. all_covered w z) two;
    }
