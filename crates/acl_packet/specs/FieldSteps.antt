-- Whether a packet's field has what its protocol allows, as the code asks for it.
use Rattle.std.specs.Prelude.{Bool, ◌||◌, ◌==◌}
use Rattle.acl_packet.specs.declared.packet_fields.Field.{Field}
use Rattle.acl_packet.specs.declared.packets.Packet.{Packet}
use Rattle.acl_packet.specs.Packets.{has_field, number_of}

abbrev pub is_fitting : Packet → Field → Bool
is_fitting p field = has_field p.family field p.proto || number_of field p == 0
