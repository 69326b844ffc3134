use Rattle.std.proofs.Common.{List, ℕ, [], ◌∷◌, ◌++◌, map, ap, ◌∙◌}
use Rattle.acl_rows.specs.Rows.{text_of_rows}
use Rattle.acl_rows.proofs.PutLaws.{retold}
use Rattle.acl_sets.specs.declared.sets.Range.{Range}
use Rattle.ipt_lang.specs.declared.ports.PortLists.{PortLists}
use Rattle.ipt_lang.specs.declared.rule_rows.RuleBack.{RuleBack}
use Rattle.ipt_lang.specs.declared.rule_rows.RuleFront.{RuleFront}
use Rattle.ipt_lang.specs.declared.rule_rows.RuleSource.{RuleSource}
use Rattle.ipt_lang.specs.RuleLines.{destination_words, source_words}
use Rattle.ipt_lang.specs.Texts.{ports_words, proto_words, rule_row}
use Rattle.gen_iptables.specs.declared.rule_rows.InRanges.{InRanges}
use Rattle.gen_iptables.specs.Sections.{chain_rule}
use Rattle.gen_iptables.specs.TailSteps.{tail_of}
use Rattle.gen_iptables.proofs.Rows.{group-ports, range_in, rule-text}
use Rattle.gen_iptables.proofs.rule_rows.OneRuleRows.put_rows.Goals as goal

pub returns : goal.returns
returns g c =
    let o = c.args.self.now in
    let chain = o.chain.now in
    let rule = chain_rule chain.rule.now (o.front, tail_of o.tail) o.act in
    let proto = proto_words chain.family rule.proto in
    let line : List (List ℕ) → List ℕ = λ words. text_of_rows (rule_row chain.hook chain.rule.now.name words ∷ []) in
    let back : RuleBack (PortLists Range InRanges) → List (List ℕ) = λ b. destination_words b.family b.dst
    (ports_words (map range_in b.ports.sports.now) (map range_in b.ports.dports.now)) b.itype b.icode b.flags b.state b.act in
    let behind = source_words c.source_of.result.address ++ back c.back_of.result in
    retold (ap (λ (f : RuleFront). text_of_rows (rule_row f.hook f.name.now (proto_words f.family f.proto ++ behind) ∷ [])) c.front_of.ensures.parts
    ∙ ap (λ name. text_of_rows (rule_row chain.hook name (proto ++ behind) ∷ [])) c.front_of.ensures.name
    ∙ ap (λ (s : RuleSource). line (proto ++ (source_words s.address ++ back c.back_of.result))) c.source_of.ensures
    ∙ ap (λ b. line (proto ++ (source_words rule.src ++ back b))) c.back_of.ensures
    ∙ rule-text chain.hook chain.family chain.rule.now.name rule (group-ports o.tail.sports.now o.tail.dports.now)) c.put_rows.ensures
