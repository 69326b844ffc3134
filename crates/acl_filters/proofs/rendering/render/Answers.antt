use Rattle.std.proofs.Common.{false, subst}
use Rattle.std.specs.List.{All}
use Rattle.acl_target.specs.declared.targets.Kind.{Kind}
use Rattle.acl_target.specs.declared.targets.Kind.TheVariants.{Cisco, Juniper, Iptables, Nftables}
use Rattle.gen_cisco.proofs.ListNames.{all-differ}
use Rattle.gen_junos.proofs.NameLaws as junos
use Rattle.gen_iptables.proofs.NameLaws as ipt
use Rattle.gen_nftables.proofs.TableNames as nft
use Rattle.acl_filters.specs.PlatformFiles.{IsTaken}
use Rattle.acl_filters.proofs.MeantTextsLaws.{text-meant}
use Rattle.acl_filters.proofs.TakenFilters.{accepted, kinds, numbers-differ, of-iptables, of-junos, of-nftables}
use Rattle.acl_filters.proofs.rendering.render.Goals as goal

pub write_all-requires-clause-accepted : goal.write_all-requires-clause-accepted
write_all-requires-clause-accepted g c =
    let taken = subst (λ (k : Kind). All (IsTaken k) c.args.filters.now) c.in-Cisco.is c.requires.taken in
    accepted Cisco c.args.filters.now taken

pub write_all-requires-clause-names_differ : goal.write_all-requires-clause-names_differ
write_all-requires-clause-names_differ g c =
    let taken = subst (λ (k : Kind). All (IsTaken k) c.args.filters.now) c.in-Cisco.is c.requires.taken in
    all-differ c.args.filters.now false (kinds Cisco c.args.filters.now taken) c.requires.apart.clash_not

pub write_all-requires-in-Juniper-clause-accepted : goal.write_all-requires-in-Juniper-clause-accepted
write_all-requires-in-Juniper-clause-accepted g c =
    let taken = subst (λ (k : Kind). All (IsTaken k) c.args.filters.now) c.in-Juniper.is c.requires.taken in
    accepted Juniper c.args.filters.now taken

pub write_all-requires-in-Juniper-clause-names_differ : goal.write_all-requires-in-Juniper-clause-names_differ
write_all-requires-in-Juniper-clause-names_differ g c =
    let taken = subst (λ (k : Kind). All (IsTaken k) c.args.filters.now) c.in-Juniper.is c.requires.taken in
    junos.all-differ c.args.filters.now false (of-junos c.args.filters.now taken) c.requires.apart.clash_not

pub write_all-requires-in-Iptables-clause-accepted : goal.write_all-requires-in-Iptables-clause-accepted
write_all-requires-in-Iptables-clause-accepted g c =
    let taken = subst (λ (k : Kind). All (IsTaken k) c.args.filters.now) c.in-Iptables.is c.requires.taken in
    accepted Iptables c.args.filters.now taken

pub write_all-requires-in-Iptables-clause-names_differ : goal.write_all-requires-in-Iptables-clause-names_differ
write_all-requires-in-Iptables-clause-names_differ g c =
    let taken = subst (λ (k : Kind). All (IsTaken k) c.args.filters.now) c.in-Iptables.is c.requires.taken in
    ipt.all-differ c.args.filters.now false (of-iptables c.args.filters.now taken) c.requires.apart.clash_not

pub write_all-requires-in-Nftables-clause-accepted : goal.write_all-requires-in-Nftables-clause-accepted
write_all-requires-in-Nftables-clause-accepted g c =
    let taken = subst (λ (k : Kind). All (IsTaken k) c.args.filters.now) c.in-Nftables.is c.requires.taken in
    accepted Nftables c.args.filters.now taken

pub write_all-requires-in-Nftables-clause-names_differ : goal.write_all-requires-in-Nftables-clause-names_differ
write_all-requires-in-Nftables-clause-names_differ g c =
    let taken = subst (λ (k : Kind). All (IsTaken k) c.args.filters.now) c.in-Nftables.is c.requires.taken in
    nft.all-differ c.args.filters.now false (of-nftables c.args.filters.now taken) (numbers-differ c.args.filters.now c.requires.apart.numbers_differ)

pub returns-in-Cisco-clause-meant : goal.returns-in-Cisco-clause-meant
returns-in-Cisco-clause-meant g c = text-meant c.args.kind c.args.filters.now c.requires.taken c.requires.apart

pub returns-in-Juniper-clause-meant : goal.returns-in-Juniper-clause-meant
returns-in-Juniper-clause-meant g c = text-meant c.args.kind c.args.filters.now c.requires.taken c.requires.apart

pub returns-in-Iptables-clause-meant : goal.returns-in-Iptables-clause-meant
returns-in-Iptables-clause-meant g c = text-meant c.args.kind c.args.filters.now c.requires.taken c.requires.apart

pub returns-in-Nftables-clause-meant : goal.returns-in-Nftables-clause-meant
returns-in-Nftables-clause-meant g c = text-meant c.args.kind c.args.filters.now c.requires.taken c.requires.apart
