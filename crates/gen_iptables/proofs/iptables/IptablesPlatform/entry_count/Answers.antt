use Rattle.std.proofs.Common.{min, sum_by, ap, sym, ◌∙◌}
use Rattle.acl_text.specs.Output.{COUNT_END}
use Rattle.gen_iptables.specs.CountSteps.{rule_count}
use Rattle.gen_iptables.proofs.EntryCounts.{all-counted}
use Rattle.gen_iptables.proofs.iptables.IptablesPlatform.entry_count.Goals as goal

pub returns : goal.returns
returns c =
    c.count_rules.ensures ∙ ap (λ rules. min (sum_by rule_count rules) COUNT_END) c.as_slice.ensures
    ∙ ap (λ n. min n COUNT_END) (sym (all-counted c.args.filter.now.rules))
