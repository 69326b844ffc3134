use Rattle.std.proofs.Common.{◌≡◌, IfOk, subst, sym}
use Rattle.acl_target.specs.declared.targets.Kind.{Kind}
use Rattle.acl_filters.proofs.ReadingForms.{CountsOf, NothingOf}
use Rattle.acl_filters.proofs.reading.sections.Goals as goal

pub returns-in-Cisco-clause-each : goal.returns-in-Cisco-clause-each
returns-in-Cisco-clause-each c =
    subst (λ (k : Kind). IfOk c.sections_in.result (λ o. CountsOf c.args.text.now o k)) (sym c.in-Cisco.is) c.sections_in.ensures.each

pub returns-in-Cisco-clause-none : goal.returns-in-Cisco-clause-none
returns-in-Cisco-clause-none c =
    subst (λ (k : Kind). IfOk c.sections_in.result (λ o. NothingOf c.args.text.now o k)) (sym c.in-Cisco.is) c.sections_in.ensures.none

pub returns-in-Juniper-clause-each : goal.returns-in-Juniper-clause-each
returns-in-Juniper-clause-each c =
    subst (λ (k : Kind). IfOk c.sections_in-in-Juniper.result (λ o. CountsOf c.args.text.now o k)) (sym c.in-Juniper.is) c.sections_in-in-Juniper.ensures.each

pub returns-in-Juniper-clause-none : goal.returns-in-Juniper-clause-none
returns-in-Juniper-clause-none c =
    subst (λ (k : Kind). IfOk c.sections_in-in-Juniper.result (λ o. NothingOf c.args.text.now o k)) (sym c.in-Juniper.is) c.sections_in-in-Juniper.ensures.none

pub returns-in-Iptables-clause-each : goal.returns-in-Iptables-clause-each
returns-in-Iptables-clause-each c =
    subst (λ (k : Kind). IfOk c.sections_in-in-Iptables.result (λ o. CountsOf c.args.text.now o k)) (sym c.in-Iptables.is) c.sections_in-in-Iptables.ensures.each

pub returns-in-Iptables-clause-none : goal.returns-in-Iptables-clause-none
returns-in-Iptables-clause-none c =
    subst (λ (k : Kind). IfOk c.sections_in-in-Iptables.result (λ o. NothingOf c.args.text.now o k)) (sym c.in-Iptables.is) c.sections_in-in-Iptables.ensures.none

pub returns-in-Nftables-clause-each : goal.returns-in-Nftables-clause-each
returns-in-Nftables-clause-each c =
    subst (λ (k : Kind). IfOk c.sections_in-in-Nftables.result (λ o. CountsOf c.args.text.now o k)) (sym c.in-Nftables.is) c.sections_in-in-Nftables.ensures.each

pub returns-in-Nftables-clause-none : goal.returns-in-Nftables-clause-none
returns-in-Nftables-clause-none c =
    subst (λ (k : Kind). IfOk c.sections_in-in-Nftables.result (λ o. NothingOf c.args.text.now o k)) (sym c.in-Nftables.is) c.sections_in-in-Nftables.ensures.none
