use Rattle.acl_options.proofs.PacketTextLaws.{packet_none, packet_some}
use Rattle.acl_options.proofs.packet_reading.read_packet.Goals as goal

pub returns-clause-some : goal.returns-clause-some
returns-clause-some c = packet_some c.args.text.now c.packet_of.result c.packet_of.ensures

pub returns-clause-none : goal.returns-clause-none
returns-clause-none c = packet_none c.args.text.now c.packet_of.result c.packet_of.ensures
