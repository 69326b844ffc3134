use Rattle.std.proofs.Common.{subst}
use Rattle.acl_text.specs.Cuts.{views}
use Rattle.nft_lang.specs.ScanSteps.{TakesChain}
use Rattle.nft_lang.proofs.SectionLaws.{name_pushed, no_section, section_taken}
use Rattle.nft_lang.proofs.scanning.NftablesScan.take_section.Goals as goal

pub returns-in_ok-push-in-Some : goal.returns-in_ok-push-in-Some
returns-in_ok-push-in-Some c =
    let head = c.head_of.result in
    let takes = subst (TakesChain head c.args.packet.now c.args.text.now) c.in-Some.is c.in_ok-taken.ensures in
    section_taken c.args.packet.now c.args.text.now (views c.args.names.now.items) (views c.push.new.self.items) c.in-Some.taken head c.head_of.ensures.is
    c.head_of.ensures.number c.head_of.ensures.priority takes
    (name_pushed c.args.names.now.items c.push.new.self.items c.name_of.result c.in_ok-push-in-Some.ensures.items c.name_of.ensures)

pub returns-in-None : goal.returns-in-None
returns-in-None c =
    let head = c.head_of.result in
    let takes = subst (TakesChain head c.args.packet.now c.args.text.now) c.in-None.is c.in_ok-taken.ensures in
    no_section c.args.packet.now c.args.text.now (views c.args.names.now.items) head c.head_of.ensures.is takes
