-- What keeps fields from being those of a packet, as boxes: then no coordinate is tied to another one.
use Rattle.std.specs.Prelude.{◌≡◌, ◌↔◌, false, List, [], ◌∷◌, ◌++◌}
use Rattle.std.specs.List.{AllByRecursion, list_any}
use Rattle.acl_packet.specs.declared.addresses.Family.{Family}
use Rattle.acl_packet.specs.declared.addresses.Family.TheVariants.{V4, V6}
use Rattle.acl_packet.specs.declared.packets.Packet.{Packet}
use Rattle.acl_packet.specs.Packets.{IsPacket}
use Rattle.term_boxes.specs.declared.boxes.PacketBox.{PacketBox}
use Rattle.term_boxes.specs.Boxes.{IsBox, everything, has}
use Rattle.term_boxes.specs.Coordinates.{FieldsFit}
use Rattle.term_boxes.specs.NumberSets.{but_icmp, but_tcp, extension_headers, from_one, without_ports}

-- A port where the protocol has none.
abbrev pub port_bars : Family → List PacketBox
port_bars f =
    record (everything f) { protocols = without_ports; source_ports = from_one 65535 }
    ∷ record (everything f) { protocols = without_ports; destination_ports = from_one 65535 }
    ∷ []

-- A flag, a type or a code where it has none.
abbrev pub field_bars : Family → List PacketBox
field_bars f =
    record (everything f) { protocols = but_tcp; flags = from_one 63 }
    ∷ record (everything f) { protocols = but_icmp f; types = from_one 255 }
    ∷ record (everything f) { protocols = but_icmp f; codes = from_one 255 }
    ∷ []

abbrev pub bars_of_both : Family → List PacketBox
bars_of_both f = port_bars f ++ field_bars f

unfoldable pub bars : Family → List PacketBox
bars V4 = bars_of_both V4
bars V6 = record (everything V6) { protocols = extension_headers } ∷ bars_of_both V6

-- Fields are those of a packet exactly where they are in none of the bars.
abbrev pub BarsTellPackets : Type 0
BarsTellPackets =
    (p : Packet) → FieldsFit p → (IsPacket p ↔ (list_any (has p) (bars p.family) ≡ false))

abbrev pub BarsAreBoxes : Type 0
BarsAreBoxes = (f : Family) → AllByRecursion (IsBox f) (bars f)
