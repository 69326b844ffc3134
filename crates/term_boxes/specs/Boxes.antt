-- A box of packets: along each coordinate a set of numbers. What holds in a box is asked of each coordinate by itself.
use Rattle.std.specs.Prelude.{◌≡◌, ℕ, Bool, true, false, ◌&&◌, List, [], ◌∷◌}
use Rattle.acl_packet.specs.declared.addresses.Family.{Family}
use Rattle.acl_packet.specs.declared.packets.Packet.{Packet}
use Rattle.acl_packet.specs.Addresses.{top_address}
use Rattle.acl_sets.specs.Ranges.{IsNormal, Numbers, holds}
use Rattle.term_boxes.specs.declared.boxes.PacketBox.{PacketBox}
use Rattle.term_boxes.specs.Coordinates.{numbers_of}
use Rattle.term_boxes.specs.NumberSets.{up_to}

-- The sides in the order of the coordinates.
abbrev pub sides_of : PacketBox → List Numbers
sides_of b = b.sources ∷ b.destinations ∷ b.protocols ∷ b.source_ports ∷ b.destination_ports
    ∷ b.types ∷ b.codes ∷ b.flags ∷ b.connections ∷ []

-- Each set holds its number.
abbrev pub hold : List Numbers → List ℕ → Bool
hold [] [] = true
hold [] (x ∷ xs) = false
hold (s ∷ ss) [] = false
hold (s ∷ ss) (x ∷ xs) = holds s.ranges x && hold ss xs

-- The packet is in the box.
abbrev pub has : Packet → PacketBox → Bool
has p b = hold (sides_of b) (numbers_of p)

-- The box of all packets of a family.
abbrev pub everything : Family → PacketBox
everything f = record {
  sources = up_to (top_address f);
  destinations = up_to (top_address f);
  protocols = up_to 255;
  source_ports = up_to 65535;
  destination_ports = up_to 65535;
  types = up_to 255;
  codes = up_to 255;
  flags = up_to 63;
  connections = up_to 3;
}

-- A set of numbers up to the top: its list is in normal form.
pub record IsSet (top : ℕ) (s : Numbers) : Type 0 where
  pub top_is : s.top ≡ top
  pub normal : IsNormal 0 s.top s.ranges

-- The sides of the box are sets of numbers of the family's coordinates.
pub record IsBox (f : Family) (b : PacketBox) : Type 0 where
  pub sources : IsSet (top_address f) b.sources
  pub destinations : IsSet (top_address f) b.destinations
  pub protocols : IsSet 255 b.protocols
  pub source_ports : IsSet 65535 b.source_ports
  pub destination_ports : IsSet 65535 b.destination_ports
  pub types : IsSet 255 b.types
  pub codes : IsSet 255 b.codes
  pub flags : IsSet 63 b.flags
  pub connections : IsSet 3 b.connections
