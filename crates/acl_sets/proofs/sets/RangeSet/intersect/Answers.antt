use Rattle.std.proofs.Common.{◌∙◌}
use Rattle.acl_sets.specs.ComputableSets.{shared_all}
use Rattle.acl_sets.proofs.TwoSets.{two_sets, at_sets, one_kind, in_common, intersect-normal, intersect-holds}
use Rattle.acl_sets.proofs.sets.RangeSet.intersect.Goals as goal

pub shared-requires : goal.shared-requires
shared-requires c =
    one_kind (two_sets c.self.view_is c.other.view_is c.requires c.self.invariant.normal c.other.invariant.normal)
    c.self.invariant.kind c.other.invariant.kind

pub invariant_of-result : goal.invariant_of-result
invariant_of-result c =
    let two = two_sets c.self.view_is c.other.view_is c.requires c.self.invariant.normal c.other.invariant.normal in
    record {
      normal = intersect-normal two _ (in_common two _ c.in_ok-shared.ensures.list);
      kind = c.in_ok-shared.ensures.kind ∙ c.self.invariant.kind;
    }

pub returns-clause-normal : goal.returns-clause-normal
returns-clause-normal c =
    let two = two_sets c.self.view_is c.other.view_is c.requires c.self.invariant.normal c.other.invariant.normal in
    intersect-normal two _ (in_common two _ c.in_ok-shared.ensures.list)

pub returns-clause-exact : goal.returns-clause-exact
returns-clause-exact c =
    let two = two_sets c.self.view_is c.other.view_is c.requires c.self.invariant.normal c.other.invariant.normal in
    intersect-holds two _ (in_common two _ c.in_ok-shared.ensures.list)

pub returns-clause-computed : goal.returns-clause-computed
returns-clause-computed c =
    let two = two_sets c.self.view_is c.other.view_is c.requires c.self.invariant.normal c.other.invariant.normal in
    in_common two _ c.in_ok-shared.ensures.list ∙ at_sets (λ z w. shared_all z w) two
