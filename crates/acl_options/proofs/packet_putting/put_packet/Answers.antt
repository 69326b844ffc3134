use Rattle.std.proofs.Common.{◌∷◌, refl}
use Rattle.std.proofs.lemmas.Result.{err_from_is_err_and}
use Rattle.acl_rows.specs.Rows.{spaced}
use Rattle.acl_text.proofs.Putting.{goes_on, stops}
use Rattle.acl_text.specs.AddressTexts.{address_text}
use Rattle.acl_options.specs.PacketTexts.{packet_text, words_behind}
use Rattle.acl_options.proofs.packet_putting.put_packet.Goals as goal

pub returns-in_err-put_address : goal.returns-in_err-put_address
unfolding packet_text
returns-in_err-put_address g c =
    let p = err_from_is_err_and c.from_residual.result c.from_residual.ensures.1 in
    let packet = c.args.packet.now in
    rw (p.1, p.2) (stops (spaced (address_text packet.family packet.dst ∷ words_behind packet)) c.in_err-put_address.ensures refl)

pub returns : goal.returns
unfolding packet_text
returns g c = goes_on g.met.O.Out.rest_goes_on c.in_ok-put_address.ensures c.put_behind.ensures
