-- What a packet is: one that is no fragment, with each field that its protocol has not at 0.
use Rattle.std.specs.Prelude.{◌≡◌, ◌≢◌, ℕ, ◌<◌, ◌≤◌, ◌^◌, Bool, true, false, not, ◌&&◌, ◌||◌, ◌==◌, bit_and, List, [], ◌∷◌}
use Rattle.acl_packet.specs.declared.addresses.Family.{Family}
use Rattle.acl_packet.specs.declared.addresses.Family.TheVariants.{V4, V6}
use Rattle.acl_packet.specs.declared.packet_fields.Field.{Field}
use Rattle.acl_packet.specs.declared.packet_fields.Field.TheVariants.{Protocol, SourcePort, DestinationPort, IcmpType, IcmpCode}
use Rattle.acl_packet.specs.declared.packets.Conn.{Conn}
use Rattle.acl_packet.specs.declared.packets.Conn.TheVariants.{New, Established, Related, Invalid}
use Rattle.acl_packet.specs.declared.packets.Packet.{Packet}
use Rattle.acl_packet.specs.Addresses.{width_of}

-- TCP, UDP and SCTP have ports (RFC 9293, RFC 768, RFC 9260).
abbrev pub has_ports : ℕ → Bool
has_ports proto = proto == 6 || proto == 17 || proto == 132

-- ICMP for IPv4 (RFC 792) and for IPv6 (RFC 4443): each only in its own family.
abbrev pub icmp_of : Family → ℕ
icmp_of V4 = 1
icmp_of V6 = 58

-- The ICMP of the other family, which no packet of this one is of.
abbrev pub foreign_of : Family → ℕ
foreign_of V4 = 58
foreign_of V6 = 1

abbrev pub is_icmp : Family → ℕ → Bool
is_icmp family proto = proto == icmp_of family

-- The numbers of a packet, beside its addresses, that a filter has sets of: the last ones are those of ICMP.
abbrev pub icmp_fields : List Field
icmp_fields = IcmpType ∷ IcmpCode ∷ []

abbrev pub fields : List Field
fields = Protocol ∷ SourcePort ∷ DestinationPort ∷ icmp_fields

abbrev pub number_of : Field → Packet → ℕ
number_of Protocol p = p.proto
number_of SourcePort p = p.sport
number_of DestinationPort p = p.dport
number_of IcmpType p = p.itype
number_of IcmpCode p = p.icode

-- The greatest number of a field: ports have 16 bits (RFC 9293 section 3.1, RFC 768, RFC 9260 section 3.1), protocols
-- (RFC 791 section 3.1, RFC 8200 section 3) and types
-- and codes (RFC 792, RFC 4443 section 2.1) have 8.
abbrev pub top_of : Field → ℕ
top_of Protocol = 255
top_of SourcePort = 65535
top_of DestinationPort = 65535
top_of IcmpType = 255
top_of IcmpCode = 255

-- Packets of the family and the protocol have the field.
abbrev pub has_field : Family → Field → ℕ → Bool
has_field family Protocol proto = true
has_field family SourcePort proto = has_ports proto
has_field family DestinationPort proto = has_ports proto
has_field family IcmpType proto = is_icmp family proto
has_field family IcmpCode proto = is_icmp family proto

-- A flag of TCP is set: FIN 1, SYN 2, RST 4, PSH 8, ACK 16, URG 32 (RFC 9293 section 3.1).
abbrev pub has_flag : ℕ → ℕ → Bool
has_flag flags flag = not (bit_and flags flag == 0)

-- ACK or RST is set: the packet does not open a connection of TCP (RFC 9293 section 3.5).
abbrev pub has_ack_or_rst : Packet → Bool
has_ack_or_rst p = has_flag p.flags 16 || has_flag p.flags 4

-- SYN is set and ACK is not: it opens one.
abbrev pub is_initial : Packet → Bool
is_initial p = has_flag p.flags 2 && not (has_flag p.flags 16)

-- A neighbour solicitation, 135, or advertisement, 136, where the packet is one of IPv6 (RFC 4861 sections 4.3 and 4.4).
abbrev pub is_neighbour_discovery : Packet → Bool
is_neighbour_discovery p = p.proto == 58 && (p.itype == 136 || p.itype == 135)

-- The connection is known already, or such a one asked for it (nftables(8), "ct state";
-- iptables-extensions(8), "conntrack").
abbrev pub is_tracked : Conn → Bool
is_tracked New = false
is_tracked Established = true
is_tracked Related = true
is_tracked Invalid = false

-- The numbers that stand for no protocol of an IPv6 packet here: extension headers and "no next header"
-- (RFC 8200, IANA's list of extension headers). ESP, 50, counts as a protocol: this project's own choice.
abbrev pub is_extension_header : ℕ → Bool
is_extension_header proto = proto == 0 || proto == 43 || proto == 44 || proto == 51 || proto == 59
    || proto == 60 || proto == 135 || proto == 139 || proto == 140

pub record IsPacket (p : Packet) : Type 0 where
  pub source : p.src < 2 ^ width_of p.family
  pub destination : p.dst < 2 ^ width_of p.family
  pub no_header : p.family ≡ V6 → is_extension_header p.proto ≡ false
  pub numbers : (field : Field) → number_of field p ≤ top_of field
  pub absent : (field : Field) → has_field p.family field p.proto ≡ false → number_of field p ≡ 0
  pub flags_fit : p.flags < 64
  pub flags_of_tcp : p.proto ≢ 6 → p.flags ≡ 0
