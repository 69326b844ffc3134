use Rattle.std.proofs.Common.{min, ap, sym, ◌∙◌}
use Rattle.acl_text.specs.Output.{COUNT_END}
use Rattle.gen_acltool.proofs.EntryCounts.{one-entry, rules-entries}
use Rattle.gen_acltool.proofs.counts.list_count.Goals as goal

pub returns-then-is_empty : goal.returns-then-is_empty
returns-then-is_empty c = one-entry c.args.rules.now (sym c.is_empty.ensures ∙ c.if-is_empty.true)

pub returns-else-is_empty : goal.returns-else-is_empty
returns-else-is_empty c =
    c.count_rules.ensures
    ∙ ap (λ n. min n COUNT_END) (sym (rules-entries c.args.rules.now (sym c.is_empty.ensures ∙ c.if-is_empty.false)))
