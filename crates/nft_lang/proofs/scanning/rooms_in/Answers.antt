use Rattle.std.proofs.Common.{sym}
use Rattle.nft_lang.proofs.StartLaws.{still_refused}
use Rattle.nft_lang.proofs.scanning.rooms_in.Goals as goal

pub returns-in_ok-rooms_of-in-Some : goal.returns-in_ok-rooms_of-in-Some
returns-in_ok-rooms_of-in-Some c =
    still_refused c.in_ok-rooms_of-in-Some.field-0 c.args.families c.args.text.now c.in-Some.words.now c.new.result
    (sym c.in-Some.ensures) c.new.ensures c.in_ok-rooms_of-in-Some.ensures
