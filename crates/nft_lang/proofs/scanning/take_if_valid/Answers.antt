use Rattle.std.proofs.Common.{sym, ◌∙◌}
use Rattle.nft_lang.proofs.ScanLaws.{item_taken, none_valid, none_written}
use Rattle.nft_lang.proofs.scanning.take_if_valid.Goals as goal

pub returns-in_default : goal.returns-in_default
returns-in_default c =
    none_written c.args.families c.args.packet.now c.args.text.now c.args.item.now c.requires c.in_default.ensures.none

pub returns-then-branch : goal.returns-then-branch
returns-then-branch c =
    item_taken c.args.families c.args.packet.now c.args.text.now c.args.item.now
    (record { decided = c.decided_by_item.result; rest = c.in-Some.rest })
    c.requires (sym c.in_ok-is_item.ensures ∙ c.if-branch.true) c.in-Some.ensures.some c.decided_by_item.ensures

pub returns-else-branch : goal.returns-else-branch
returns-else-branch c =
    none_valid c.args.families c.args.packet.now c.args.text.now c.args.item.now
    c.requires (sym c.in_ok-is_item.ensures ∙ c.if-branch.false)
