use Rattle.std.proofs.Common.{min, sum_by, ap, sym, ◌∙◌}
use Rattle.acl_text.specs.Output.{COUNT_END}
use Rattle.gen_nftables.specs.CountSteps.{rule_count}
use Rattle.gen_nftables.proofs.EntryCounts.{all-sizes}
use Rattle.gen_nftables.proofs.nftables.NftablesPlatform.entry_count.Goals as goal

pub returns : goal.returns
returns c =
    let f = c.args.filter.now in
    c.count_rules.ensures ∙ ap (λ rules. min (sum_by rule_count rules) COUNT_END) c.as_slice.ensures
    ∙ ap (λ n. min n COUNT_END) (sym (all-sizes f.verbose f.rules))
