use Rattle.std.proofs.Common.{◌*◌, ◌∙◌}
use Rattle.gen_iptables.specs.CountSteps.{act_count, combination_count}
use Rattle.gen_iptables.proofs.EntryCounts.{act-min, one-more, product}
use Rattle.gen_iptables.proofs.counts.IptablesRuleCount.count_rule.Goals as goal

pub returns : goal.returns
returns c =
    let r = c.args.rule.now in
    let rules = product (combination_count r) (act_count r.log) c.combination_count.ensures (c.act_count.ensures ∙ act-min r.log) c.saturating_mul.ensures in
    one-more (combination_count r * act_count r.log) c.saturating_mul.result c.saturating_add.result rules c.saturating_add.ensures
