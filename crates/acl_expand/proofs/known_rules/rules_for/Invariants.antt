-- What is known of the lists so far that do not fit is known of the others.
use Rattle.std.proofs.Common.{drop}
use Rattle.std.specs.List.{AllByRecursion}
use Rattle.acl_expand.specs.KnownRules.{IsKnown}
use Rattle.acl_expand.proofs.known_rules.rules_for.Given as goal

abbrev pub invariant-loop-list : goal.invariant-loop-list
invariant-loop-list l = AllByRecursion (IsKnown l.today l.terms) (drop l.list-index l.lists)
