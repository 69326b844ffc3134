use Rattle.std.proofs.Common.{◌*◌, length, min, None, ap, ◌∙◌}
use Rattle.acl_text.specs.Output.{COUNT_END}
use Rattle.acl_platform.specs.Choices.{number_choices}
use Rattle.acl_platform.proofs.PairLaws.{product-min}
use Rattle.gen_nftables.specs.Sections.{chain_rule, rule_size}
use Rattle.gen_nftables.proofs.counts.NftablesRuleCount.count_rule.Goals as goal

pub returns : goal.returns
returns c =
    let r = c.args.rule.now in
    let protocols = length (number_choices r.protos) in
    c.saturating_mul.ensures ∙ ap (λ n. min (n * c.rule_size.result) COUNT_END) c.count.ensures
    ∙ ap (λ n. min (min protocols COUNT_END * n) COUNT_END) c.rule_size.ensures
    ∙ product-min protocols (rule_size (chain_rule r None)) COUNT_END
