use Rattle.std.proofs.Common.{nat_lt, rules, map}
use Rattle.std.proofs.lemmas.List.Sorted.{IsPartitionPoint-from_clause}
use Rattle.acl_sets.specs.declared.sets.Range.{Range}
use Rattle.acl_sets.proofs.WalkFacts.{number-parts}
use Rattle.acl_sets.proofs.SpanLists.{found_number, spans_parted}
use Rattle.acl_sets.proofs.sweeps.has_number.Goals as goal

pub returns : goal.returns
returns g c = λ top n.
    let f = g.T.Span.range in
    let xs = c.args.ranges.now in
    let point = IsPartitionPoint-from_clause (λ x. nat_lt (f x).high c.args.x) _ _ c.partition_point-from.ensures.partitioned
    (spans_parted f (λ (r : Range). nat_lt r.high c.args.x) xs (number-parts top c.args.x (map f xs) n)) (λ a r q k. search rules) in
    found_number f top c.args.x xs c.partition_point-from.result _ n c.partition_point-from.ensures.bound point c.begins_by.ensures
