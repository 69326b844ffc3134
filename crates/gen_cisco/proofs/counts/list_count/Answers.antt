use Rattle.std.proofs.Common.{min, ap, sym, ◌∙◌}
use Rattle.acl_text.specs.Output.{COUNT_END}
use Rattle.gen_cisco.proofs.EntryCounts.{closing-list, closing-min, rule-list}
use Rattle.gen_cisco.proofs.counts.list_count.Goals as goal

pub returns-then-has_rule : goal.returns-then-has_rule
returns-then-has_rule c =
    c.count_rules.ensures
    ∙ ap (λ n. min n COUNT_END) (sym (rule-list c.args.family c.args.rules.now (sym c.has_rule.ensures ∙ c.if-has_rule.true)))

pub returns-else-has_rule : goal.returns-else-has_rule
returns-else-has_rule c =
    c.closing_count.ensures ∙ closing-min c.args.family
    ∙ ap (λ n. min n COUNT_END) (sym (closing-list c.args.family c.args.rules.now (sym c.has_rule.ensures ∙ c.if-has_rule.false)))
