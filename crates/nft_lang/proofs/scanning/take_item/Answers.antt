use Rattle.std.proofs.Common.{IfNone, subst, sym, ◌∙◌}
use Rattle.nft_lang.specs.StartSteps.{IsRefused}
use Rattle.nft_lang.proofs.ScanLaws.{none_read, none_refused}
use Rattle.nft_lang.proofs.scanning.take_item.Goals as goal

pub returns-in_default : goal.returns-in_default
returns-in_default c =
    let refused = subst (λ o. IfNone o (IsRefused c.args.families c.args.text.now)) c.in_default.is c.in_ok-rooms.ensures in
    none_refused c.args.families c.args.packet.now c.args.text.now refused

pub returns-in-None : goal.returns-in-None
returns-in-None c = none_read c.args.families c.args.packet.now c.args.text.now (sym c.in_ok-item.ensures ∙ c.in-None.is)
