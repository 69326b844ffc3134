-- Where those that are left are alike, all are.
use Rattle.std.proofs.Common.{drop}
use Rattle.std.specs.List.{AllByRecursion}
use Rattle.acl_expand.specs.KnownRules.{IsAlike}
use Rattle.acl_expand.proofs.target_classes.TargetClass.each_is_alike.Given as goal

abbrev pub invariant-loop-term : goal.invariant-loop-term
invariant-loop-term l = AllByRecursion (IsAlike l.self l.other l.today) (drop l.term-index l.terms) → AllByRecursion (IsAlike l.self l.other l.today) l.terms
