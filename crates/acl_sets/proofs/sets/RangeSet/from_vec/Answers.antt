use Rattle.acl_sets.proofs.SweepFacts.{ranges-normal, ranges-holds}
use Rattle.acl_sets.proofs.sets.RangeSet.from_vec.Goals as goal

pub invariant_of-result-2 : goal.invariant_of-result-2
invariant_of-result-2 c = record {
  normal = ranges-normal c.args.top c.args.ranges.items _ c.requires c.in_ok-normal.ensures.list;
  kind = c.in_ok-normal.ensures.kind;
}

pub returns-clause-normal : goal.returns-clause-normal
returns-clause-normal c = ranges-normal c.args.top c.args.ranges.items _ c.requires c.in_ok-normal.ensures.list

pub returns-clause-exact : goal.returns-clause-exact
returns-clause-exact c = ranges-holds c.args.top c.args.ranges.items _ c.requires c.in_ok-normal.ensures.list
