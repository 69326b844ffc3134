use Rattle.std.proofs.Common.{subst}
use Rattle.nft_lang.specs.ScanSteps.{TakesItem}
use Rattle.nft_lang.proofs.ScanLaws.{items_taken, none_taken, not_closed, one_taken, rest_shorter}
use Rattle.nft_lang.proofs.scanning.take_items.Goals as goal

pub loop-item-init : goal.loop-item-init
loop-item-init c = none_taken c.args.families c.args.packet.now c.args.text.now

pub loop-item-smaller : goal.loop-item-smaller
loop-item-smaller c =
    let next = subst (TakesItem c.args.families c.args.packet.now c.loop-item.rest.now) c.in-Some.is c.in_ok-item.ensures in
    rest_shorter c.args.families next.some.0 c.loop-item.rest.now c.in-Some.item.rest.now next.some.1.written_first

pub loop-item-preserved : goal.loop-item-preserved
loop-item-preserved c =
    let next = subst (TakesItem c.args.families c.args.packet.now c.loop-item.rest.now) c.in-Some.is c.in_ok-item.ensures in
    rw c.or-decided.ensures
    (one_taken c.args.families c.args.packet.now c.args.text.now c.loop-item.rest.now c.loop-item.decided c.in-Some.item c.loop-item.invariant next)

pub returns-in-Some-rows_behind : goal.returns-in-Some-rows_behind
returns-in-Some-rows_behind c =
    let last = subst (TakesItem c.args.families c.args.packet.now c.loop-item.rest.now) c.in_default.is c.in_ok-item.ensures in
    items_taken c.args.families c.args.packet.now c.args.text.now c.loop-item.rest.now
    (record { decided = c.loop-item.decided; rest = c.in-Some-rows_behind.rest }) c.loop-item.invariant last c.in-Some-rows_behind.ensures.some

pub returns-in-None : goal.returns-in-None
returns-in-None c =
    let last = subst (TakesItem c.args.families c.args.packet.now c.loop-item.rest.now) c.in_default.is c.in_ok-item.ensures in
    not_closed c.args.families c.args.packet.now c.args.text.now c.loop-item.rest.now c.loop-item.decided c.loop-item.invariant last c.in-None.ensures.none
