-- The rules on the pairs of sides that the loop has seen stand.
use Rattle.std.proofs.Common.{◌≡◌, ◌++◌, flat_map, take}
use Rattle.acl_expand.specs.TermRules.{pair_rules}
use Rattle.acl_expand.proofs.rule_making.push_family.Given as goal

abbrev pub invariant-loop-pair : goal.invariant-loop-pair
invariant-loop-pair l =
    l.rules ≡ l.initial.rules ++ flat_map (pair_rules l.target l.term l.family) (take l.pair-index l.pairs)
