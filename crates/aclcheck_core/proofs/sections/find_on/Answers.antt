use Rattle.std.proofs.Common.{IfOk, sym, subst}
use Rattle.acl_target.specs.declared.targets.Kind.{Kind}
use Rattle.aclcheck_core.proofs.MadeAnswers.{FoundOn}
use Rattle.aclcheck_core.proofs.sections.find_on.Goals as goal

pub returns-in-Cisco : goal.returns-in-Cisco
returns-in-Cisco c =
    subst (λ (k : Kind). IfOk c.find_section.result (λ v. FoundOn c.args.text.now c.args.which c.args.packet.now v k)) (sym c.in-Cisco.is) c.find_section.ensures

pub returns-in-Juniper : goal.returns-in-Juniper
returns-in-Juniper c =
    subst (λ (k : Kind). IfOk c.find_section-in-Juniper.result (λ v. FoundOn c.args.text.now c.args.which c.args.packet.now v k)) (sym c.in-Juniper.is) c.find_section-in-Juniper.ensures

pub returns-in-Iptables : goal.returns-in-Iptables
returns-in-Iptables c =
    subst (λ (k : Kind). IfOk c.find_section-in-Iptables.result (λ v. FoundOn c.args.text.now c.args.which c.args.packet.now v k)) (sym c.in-Iptables.is) c.find_section-in-Iptables.ensures

pub returns-in-Nftables : goal.returns-in-Nftables
returns-in-Nftables c =
    subst (λ (k : Kind). IfOk c.find_section-in-Nftables.result (λ v. FoundOn c.args.text.now c.args.which c.args.packet.now v k)) (sym c.in-Nftables.is) c.find_section-in-Nftables.ensures
