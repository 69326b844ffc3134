-- A packet as nine numbers, one along each coordinate: source, destination, protocol, source port, destination port,
-- type, code, flags and connection.
use Rattle.std.specs.Prelude.{◌≡◌, ℕ, ◌+◌, ◌*◌, ◌<◌, ◌≤◌, ◌^◌, ◌==◌, if◌then◌else◌, List, [], ◌∷◌, slice_index_or}
use Rattle.std.specs.Int.{bit_at}
use Rattle.acl_packet.specs.declared.addresses.Family.{Family}
use Rattle.acl_packet.specs.declared.packet_fields.Field.{Field}
use Rattle.acl_packet.specs.declared.packets.Conn.{Conn}
use Rattle.acl_packet.specs.declared.packets.Conn.TheVariants.{New, Established, Related, Invalid}
use Rattle.acl_packet.specs.declared.packets.Packet.{Packet}
use Rattle.acl_packet.specs.Addresses.{top_address, width_of}
use Rattle.acl_packet.specs.Packets.{number_of, top_of}

-- ---- flags and connections

-- Flags in an order in which those that options ask for count most: ACK 32, RST 16, SYN 8, and then URG 4, PSH 2 and
-- FIN 1. The bits of the header are FIN 0, SYN 1, RST 2, PSH 3, ACK 4 and URG 5 (RFC 9293 section 3.1).
abbrev pub place_of_flags : ℕ → ℕ
place_of_flags f =
    32 * bit_at f 4 + 16 * bit_at f 2 + 8 * bit_at f 1 + 4 * bit_at f 5 + 2 * bit_at f 3 + bit_at f 0

abbrev pub flags_at : ℕ → ℕ
flags_at n =
    32 * bit_at n 2 + 16 * bit_at n 5 + 8 * bit_at n 1 + 4 * bit_at n 4 + 2 * bit_at n 3 + bit_at n 0

-- Connections in an order in which those that are known stand behind the others.
abbrev pub place_of_connection : Conn → ℕ
place_of_connection New = 0
place_of_connection Invalid = 1
place_of_connection Established = 2
place_of_connection Related = 3

abbrev pub connection_at : ℕ → Conn
connection_at n =
    if n == 0 then New
    else if n == 1 then Invalid
    else if n == 2 then Established
    else Related

-- ---- packets

abbrev pub numbers_of : Packet → List ℕ
numbers_of p = p.src ∷ p.dst ∷ p.proto ∷ p.sport ∷ p.dport ∷ p.itype ∷ p.icode
    ∷ place_of_flags p.flags ∷ place_of_connection p.conn ∷ []

-- The greatest number along each coordinate.
abbrev pub tops_of : Family → List ℕ
tops_of f = top_address f ∷ top_address f ∷ 255 ∷ 65535 ∷ 65535 ∷ 255 ∷ 255 ∷ 63 ∷ 3 ∷ []

-- As many numbers as tops, none above its own.
abbrev pub AreWithin : List ℕ → List ℕ → Type 0
AreWithin [] [] = Unit {0}
AreWithin [] (x ∷ xs) = ⊥
AreWithin (top ∷ tops) [] = ⊥
AreWithin (top ∷ tops) (x ∷ xs) = (x ≤ top) × AreWithin tops xs

-- The fields of a family that have the numbers.
abbrev pub packet_at : Family → List ℕ → Packet
packet_at f ns = record {
  src = slice_index_or ns 0 0;
  dst = slice_index_or ns 1 0;
  sport = slice_index_or ns 3 0;
  dport = slice_index_or ns 4 0;
  family = f;
  proto = slice_index_or ns 2 0;
  flags = flags_at (slice_index_or ns 7 0);
  itype = slice_index_or ns 5 0;
  icode = slice_index_or ns 6 0;
  conn = connection_at (slice_index_or ns 8 0);
}

-- Each field is within its type, whether they are those of a packet or not.
pub record FieldsFit (p : Packet) : Type 0 where
  pub source : p.src < 2 ^ width_of p.family
  pub destination : p.dst < 2 ^ width_of p.family
  pub numbers : (field : Field) → number_of field p ≤ top_of field
  pub flags_fit : p.flags < 64

-- Nine numbers are those of the fields that they give.
abbrev pub NumbersComeBack : Type 0
NumbersComeBack = (f : Family) (ns : List ℕ) → AreWithin (tops_of f) ns → numbers_of (packet_at f ns) ≡ ns

-- They give fields that fit.
abbrev pub NumbersFit : Type 0
NumbersFit = (f : Family) (ns : List ℕ) → AreWithin (tops_of f) ns → FieldsFit (packet_at f ns)

-- Fields that fit are given by their numbers, none of which is above its top.
abbrev pub PacketsComeBack : Type 0
PacketsComeBack = (p : Packet) → FieldsFit p
    → AreWithin (tops_of p.family) (numbers_of p) × (packet_at p.family (numbers_of p) ≡ p)
