use Rattle.std.proofs.Common.{sym}
use Rattle.cisco_lang.proofs.ScanLaws.{item_shorter, items_taken, nothing_so_far, so_far_more}
use Rattle.cisco_lang.proofs.scanning.take_items.Goals as goal

pub loop-item-init : goal.loop-item-init
loop-item-init c = nothing_so_far c.args.family c.args.packet.now c.args.text.now

pub loop-item-smaller : goal.loop-item-smaller
loop-item-smaller c = item_shorter c.args.family c.loop-item.rest.now c.in-Some.item.rest.now c.in-Some.item.entry (sym c.in-Some.ensures)

pub loop-item-preserved : goal.loop-item-preserved
loop-item-preserved c =
    let before = c.loop-item.invariant in
    let item = c.in-Some.item in
    rw c.walk_on-walked.ensures
    (so_far_more c.args.family c.args.packet.now c.args.text.now c.loop-item.rest.now item.rest.now c.loop-item.walked item.entry before.0 before.1 (sym c.in-Some.ensures))

pub returns : goal.returns
returns c =
    items_taken c.args.family c.args.packet.now c.args.text.now c.loop-item.walked (record { outcome = c.walk_end.result; rest = c.loop-item.rest }) c.loop-item.invariant
    c.walk_end.ensures (sym c.in_default.ensures)
