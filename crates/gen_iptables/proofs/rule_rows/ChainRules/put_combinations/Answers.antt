use Rattle.std.proofs.Common.{List, flat_map, ap, ◌∙◌}
use Rattle.acl_rows.specs.Rows.{text_of_rows}
use Rattle.acl_rows.proofs.PutLaws.{retold}
use Rattle.gen_iptables.specs.ChainRowSteps.{rows_behind_front}
use Rattle.gen_iptables.specs.Sections.{Front}
use Rattle.gen_iptables.proofs.Rows.{all-parts}
use Rattle.gen_iptables.proofs.rule_rows.ChainRules.put_combinations.Goals as goal

pub returns : goal.returns
returns g c =
    let chain = c.args.self.now in
    let r = chain.rule.now in
    retold (ap (λ (fronts : List Front). text_of_rows (flat_map (rows_behind_front chain.hook chain.family r) fronts)) c.fronts_of.ensures
    ∙ ap text_of_rows (all-parts chain.hook chain.family r)) c.put_each.ensures
