use Rattle.std.proofs.Common.{◌∙◌}
use Rattle.acl_sets.specs.ComputableSets.{put_all}
use Rattle.acl_sets.proofs.TwoSets.{two_sets, at_sets, one_kind, united, union-normal, union-holds}
use Rattle.acl_sets.proofs.sets.RangeSet.union.Goals as goal

pub united-requires : goal.united-requires
united-requires c =
    one_kind (two_sets c.self.view_is c.other.view_is c.requires c.self.invariant.normal c.other.invariant.normal)
    c.self.invariant.kind c.other.invariant.kind

pub invariant_of-result : goal.invariant_of-result
invariant_of-result c =
    let two = two_sets c.self.view_is c.other.view_is c.requires c.self.invariant.normal c.other.invariant.normal in
    record {
      normal = union-normal two _ (united two _ c.in_ok-united.ensures.list);
      kind = c.in_ok-united.ensures.kind ∙ c.self.invariant.kind;
    }

pub returns-clause-normal : goal.returns-clause-normal
returns-clause-normal c =
    let two = two_sets c.self.view_is c.other.view_is c.requires c.self.invariant.normal c.other.invariant.normal in
    union-normal two _ (united two _ c.in_ok-united.ensures.list)

pub returns-clause-exact : goal.returns-clause-exact
returns-clause-exact c =
    let two = two_sets c.self.view_is c.other.view_is c.requires c.self.invariant.normal c.other.invariant.normal in
    union-holds two _ (united two _ c.in_ok-united.ensures.list)

pub returns-clause-computed : goal.returns-clause-computed
returns-clause-computed c =
    let two = two_sets c.self.view_is c.other.view_is c.requires c.self.invariant.normal c.other.invariant.normal in
    united two _ c.in_ok-united.ensures.list ∙ at_sets (λ z w. put_all z w) two
