use Rattle.std.proofs.Common.{refl, subst}
use Rattle.nft_lang.specs.ScanSteps.{TakesItems}
use Rattle.nft_lang.proofs.SectionLaws.{chain_taken, no_head, no_items}
use Rattle.nft_lang.proofs.scanning.take_chain.Goals as goal

pub returns-in-Some-2 : goal.returns-in-Some-2
returns-in-Some-2 c =
    let head = c.args.head.now in
    let items = c.in-Some.items.now in
    let takes = subst (TakesItems head.families c.args.packet.now items) c.in-Some-2.is c.in_ok-taken-in-Some.ensures in
    chain_taken head c.args.packet.now c.args.text.now items c.in-Some-2.taken (record { decided = c.outcome_of.result; rest = c.in-Some-2.taken.rest })
    c.in-Some.ensures.some takes c.outcome_of.ensures refl

pub returns-in-None-2 : goal.returns-in-None-2
returns-in-None-2 c =
    let head = c.args.head.now in
    let items = c.in-Some.items.now in
    let takes = subst (TakesItems head.families c.args.packet.now items) c.in-None-2.is c.in_ok-taken-in-Some.ensures in
    no_items head c.args.packet.now c.args.text.now items c.in-Some.ensures.some takes

pub returns-in-None : goal.returns-in-None
returns-in-None c = no_head c.args.head.now c.args.packet.now c.args.text.now c.in-None.ensures.none
