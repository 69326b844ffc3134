use Rattle.std.proofs.Common.{ℕ, nat_lt, rules, arith}
use Rattle.std.proofs.lemmas.Bool.{ltb-false, ltb-true}
use Rattle.std.proofs.lemmas.List.Sorted.{IsPartitionedBy-ltb, IsPartitionPoint-from_clause}
use Rattle.acl_shade.proofs.points.start_of.Goals as goal

pub returns-clause-below : goal.returns-clause-below
returns-clause-below c = λ rise k before.
    let point = IsPartitionPoint-from_clause (λ (p : ℕ). nat_lt p c.args.low) _ _ c.partition_point.ensures.partitioned
    (IsPartitionedBy-ltb (λ (p : ℕ). p) c.args.points.now c.args.low rise) (λ a r q k. search rules) in
    ltb-true _ c.args.low (point.0 k 0 (omega arith) before)

pub returns-clause-above : goal.returns-clause-above
returns-clause-above c = λ rise within.
    let point = IsPartitionPoint-from_clause (λ (p : ℕ). nat_lt p c.args.low) _ _ c.partition_point.ensures.partitioned
    (IsPartitionedBy-ltb (λ (p : ℕ). p) c.args.points.now c.args.low rise) (λ a r q k. search rules) in
    ltb-false _ c.args.low (point.1 c.partition_point.result 0 (omega arith) within)
