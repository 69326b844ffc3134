use Rattle.std.proofs.Common.{List, flat_map, ap}
use Rattle.acl_rows.specs.Rows.{text_of_rows}
use Rattle.acl_rows.proofs.PutLaws.{retold}
use Rattle.gen_iptables.specs.ChainRowSteps.{combination_rows}
use Rattle.gen_iptables.specs.Sections.{Back}
use Rattle.gen_iptables.proofs.rule_rows.BehindSourcesGroupForm.put_group.Goals as goal

pub returns : goal.returns
returns g c =
    let p = c.args.self.now in
    let chain = p.chain.now in
    retold (ap (λ (backs : List Back). text_of_rows (flat_map (λ (back : Back).
    combination_rows chain.hook chain.family chain.rule.now (p.front, (p.sports.now, (c.args.group.now, back)))) backs)) c.backs_of.ensures)
    c.put_each.ensures
