use Rattle.std.proofs.Common.{◌≡◌, drop}
use Rattle.acl_platform.specs.Rules.{rules_outcome}
use Rattle.acl_platform.proofs.filtering.filter_outcome.Given as goal

-- the rules that are left decide as all do
abbrev pub invariant-loop-rule : goal.invariant-loop-rule
invariant-loop-rule l =
    rules_outcome l.filter.ending (drop l.rule-index l.rule-items) l.packet ≡ rules_outcome l.filter.ending l.rule-items l.packet
