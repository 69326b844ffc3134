use Rattle.std.proofs.Common.{nat_lt, ◌++◌, map, ap, sym, ◌∙◌, rules}
use Rattle.std.proofs.lemmas.List.{map-append}
use Rattle.std.proofs.lemmas.List.Sorted.{IsPartitionPoint-from_clause}
use Rattle.acl_sets.specs.declared.sets.Range.{Range}
use Rattle.acl_sets.proofs.WalkFacts.{number-parts}
use Rattle.acl_sets.proofs.SpanLists.{found_parts, spans_parted}
use Rattle.acl_sets.proofs.sweeps.push_ending_below.Goals as goal

pub returns-in_ok-extend_from_slice-in-len1-up-clause-put :
    goal.returns-in_ok-extend_from_slice-in-len1-up-clause-put
returns-in_ok-extend_from_slice-in-len1-up-clause-put g c = λ top n.
    let f = g.T.Span.range in
    let xs = c.args.ranges.now in
    let point = IsPartitionPoint-from_clause (λ x. nat_lt (f x).high c.args.low) _ _ c.partition_point-count.ensures.partitioned
    (spans_parted f (λ (r : Range). nat_lt r.high c.args.low) xs (number-parts top c.args.low (map f xs) n)) (λ a r q k. search rules) in
    ap (map f) c.in_ok-extend_from_slice-in-len1-up.ensures.items ∙ map-append f c.args.out.now.items _
    ∙ ap (λ t. map f c.args.out.now.items ++ t) (sym (found_parts f top c.args.low xs c.partition_point-count.result
    c.partition_point-count.ensures.bound point).0)

pub returns-in_ok-extend_from_slice-in-len1-up-clause-rest :
    goal.returns-in_ok-extend_from_slice-in-len1-up-clause-rest
returns-in_ok-extend_from_slice-in-len1-up-clause-rest g c = λ top n.
    let f = g.T.Span.range in
    let xs = c.args.ranges.now in
    let point = IsPartitionPoint-from_clause (λ x. nat_lt (f x).high c.args.low) _ _ c.partition_point-count.ensures.partitioned
    (spans_parted f (λ (r : Range). nat_lt r.high c.args.low) xs (number-parts top c.args.low (map f xs) n)) (λ a r q k. search rules) in
    sym (found_parts f top c.args.low xs c.partition_point-count.result c.partition_point-count.ensures.bound point).1
