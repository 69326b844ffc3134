use Rattle.std.proofs.Common.{◌≡◌, min, take}
use Rattle.std.specs.List.{sum_by}
use Rattle.acl_text.specs.Output.{COUNT_END}
use Rattle.acl_platform.proofs.rule_counts.count_rules.Given as goal

abbrev pub invariant-loop-rule : goal.invariant-loop-rule
invariant-loop-rule g l = l.count ≡ min (sum_by (g.C.RuleCount.entries l.counts) (take l.rule-index l.rules)) COUNT_END
