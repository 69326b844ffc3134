use Rattle.std.proofs.Common.{ap, ◌∙◌}
use Rattle.acl_rows.proofs.PutLaws.{retold}
use Rattle.ipt_lang.specs.declared.rule_rows.RuleFront.{RuleFront}
use Rattle.ipt_lang.specs.RuleLines.{rule_front}
use Rattle.gen_iptables.proofs.rule_rows.WithTailAddressForm.put_front.Goals as goal

pub returns : goal.returns
returns g c =
    let chain = c.args.self.now.chain.now in
    retold (ap (λ (f : RuleFront). rule_front f.hook f.name.now f.family f.proto) c.front_of.ensures.parts
    ∙ ap (λ name. rule_front chain.hook name chain.family c.args.proto) c.front_of.ensures.name) c.put_into.ensures
