use Rattle.acl_options.proofs.PacketTextLaws.{packet-one}
use Rattle.acl_options.proofs.packet_laws.texts_have_one_packet.Goals as goal

pub returns : goal.returns
returns c = packet-one
