use Rattle.std.proofs.Common.{◌∙◌}
use Rattle.acl_sets.specs.ComputableSets.{cut_all}
use Rattle.acl_sets.proofs.TwoSets.{two_sets, at_sets, one_kind, cut_away, subtract-normal, subtract-holds}
use Rattle.acl_sets.proofs.sets.RangeSet.subtract.Goals as goal

pub cut-requires : goal.cut-requires
cut-requires c =
    one_kind (two_sets c.self.view_is c.other.view_is c.requires c.self.invariant.normal c.other.invariant.normal)
    c.self.invariant.kind c.other.invariant.kind

pub invariant_of-result : goal.invariant_of-result
invariant_of-result c =
    let two = two_sets c.self.view_is c.other.view_is c.requires c.self.invariant.normal c.other.invariant.normal in
    record {
      normal = subtract-normal two _ (cut_away two _ (c.in_ok-cut.ensures.list _ _ c.self.invariant.normal c.other.invariant.normal));
      kind = c.in_ok-cut.ensures.kind ∙ c.self.invariant.kind;
    }

pub returns-clause-normal : goal.returns-clause-normal
returns-clause-normal c =
    let two = two_sets c.self.view_is c.other.view_is c.requires c.self.invariant.normal c.other.invariant.normal in
    subtract-normal two _ (cut_away two _ (c.in_ok-cut.ensures.list _ _ c.self.invariant.normal c.other.invariant.normal))

pub returns-clause-exact : goal.returns-clause-exact
returns-clause-exact c =
    let two = two_sets c.self.view_is c.other.view_is c.requires c.self.invariant.normal c.other.invariant.normal in
    subtract-holds two _ (cut_away two _ (c.in_ok-cut.ensures.list _ _ c.self.invariant.normal c.other.invariant.normal))

pub returns-clause-computed : goal.returns-clause-computed
returns-clause-computed c =
    let two = two_sets c.self.view_is c.other.view_is c.requires c.self.invariant.normal c.other.invariant.normal in
    cut_away two _ (c.in_ok-cut.ensures.list _ _ c.self.invariant.normal c.other.invariant.normal) ∙ at_sets (λ z w. cut_all z w) two
