use Rattle.std.proofs.Common.{rules}
use Rattle.std.proofs.lemmas.List.Sorted.{IsNonDecreasingBy-from_sort_by_key}
use Rattle.acl_sets.proofs.sweeps.sorted.Goals as goal

pub returns-clause-rising : goal.returns-clause-rising
returns-clause-rising g c =
    IsNonDecreasingBy-from_sort_by_key (λ r. (g.T.Span.range r).low) _ c.sort_unstable_by_key.ensures.sorted
    (λ a r q k. search rules)
