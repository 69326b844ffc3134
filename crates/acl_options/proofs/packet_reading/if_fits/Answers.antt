use Rattle.std.proofs.Common.{◌∙◌, sym, Some, None}
use Rattle.std.proofs.lemmas.Bool.{cond-true, cond-false}
use Rattle.acl_options.specs.PacketTextSteps.{fits}
use Rattle.acl_options.proofs.PacketTextLaws.{fits-as}
use Rattle.acl_options.proofs.packet_reading.if_fits.Goals as goal

pub returns-then-is_packet : goal.returns-then-is_packet
returns-then-is_packet c =
    let p = c.args.packet in
    sym (cond-true (fits p) (Some p) None (sym (fits-as p c.is_packet.result c.is_packet.ensures) ∙ c.if-is_packet.true))

pub returns-else-is_packet : goal.returns-else-is_packet
returns-else-is_packet c =
    let p = c.args.packet in
    sym (cond-false (fits p) (Some p) None (sym (fits-as p c.is_packet.result c.is_packet.ensures) ∙ c.if-is_packet.false))
