use Rattle.std.proofs.Common.{map, ap, ◌∙◌}
use Rattle.acl_rows.proofs.PutLaws.{retold}
use Rattle.acl_sets.specs.declared.sets.Range.{Range}
use Rattle.ipt_lang.specs.declared.documents.Act.TheVariants.{Decide}
use Rattle.ipt_lang.specs.declared.ports.PortLists.{PortLists}
use Rattle.ipt_lang.specs.declared.rule_rows.RuleBack.{RuleBack}
use Rattle.ipt_lang.specs.RuleLines.{rule_back}
use Rattle.ipt_lang.specs.Texts.{ports_words}
use Rattle.gen_iptables.specs.declared.rule_rows.InRanges.{InRanges}
use Rattle.gen_iptables.specs.Sections.{address_of, asks_state}
use Rattle.gen_iptables.proofs.Rows.{group-ports, range_in}
use Rattle.gen_iptables.proofs.rule_rows.WithTailAddressForm.put_back.Goals as goal

pub returns : goal.returns
returns g c =
    let w = c.args.self.now in
    let chain = w.chain.now in
    let r = chain.rule.now in
    let t = w.tail in
    retold (ap (λ (b : RuleBack (PortLists Range InRanges)). rule_back b.family b.dst
    (ports_words (map range_in b.ports.sports.now) (map range_in b.ports.dports.now)) b.itype b.icode b.flags b.state b.act) c.back_of.ensures
    ∙ ap (λ ports. rule_back chain.family (address_of c.args.dst.now) ports t.back.0 t.back.1.0 t.back.1.1 (asks_state r.test) (Decide r.verdict))
    (group-ports t.sports.now t.dports.now)) c.put_into.ensures
