use Rattle.acl_options.proofs.PacketTextLaws.{packet-again, packet-printed}
use Rattle.acl_options.proofs.packet_laws.packets_are_read_again.Goals as goal

pub returns-clause-spelled : goal.returns-clause-spelled
returns-clause-spelled c = packet-printed

pub returns-clause-read : goal.returns-clause-read
returns-clause-read c = packet-again
