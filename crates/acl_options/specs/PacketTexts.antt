-- The text of a packet: nine words with one space between. They are the source and the destination; the protocol, the
-- source port, the destination port, the flags of TCP, the type and the code of ICMP as numbers; and what connection
-- tracking says of the packet.
use Rattle.std.specs.Prelude.{◌≡◌, ℕ, List, [], ◌∷◌, ◌++◌, codes, decimal}
use Rattle.acl_packet.specs.Packets.{IsPacket}
use Rattle.acl_packet.specs.declared.packets.Conn.{Conn}
use Rattle.acl_packet.specs.declared.packets.Conn.TheVariants.{New, Established, Related, Invalid}
use Rattle.acl_packet.specs.declared.packets.Packet.{Packet}
use Rattle.acl_text.specs.AddressTexts.{IsAddressText, address_text}
use Rattle.acl_rows.specs.Rows.{spaced}

-- nftables(8), "ct state"; iptables-extensions(8), "conntrack"
abbrev pub conn_text : Conn → List ℕ
conn_text New = codes "new"
conn_text Established = codes "established"
conn_text Related = codes "related"
conn_text Invalid = codes "invalid"

-- The words behind the addresses. A number is its decimal digits, without a sign or a leading zero.
abbrev pub words_behind : Packet → List (List ℕ)
words_behind p = decimal p.proto ∷ decimal p.sport ∷ decimal p.dport ∷ decimal p.flags ∷ decimal p.itype
    ∷ decimal p.icode ∷ conn_text p.conn ∷ []

-- The text is one of the packet's: only its addresses, both of its family, have several spellings.
pub record IsPacketText (text : List ℕ) (p : Packet) : Type 0 where
  pub source : List ℕ
  pub destination : List ℕ
  pub source_is : IsAddressText p.family source p.src
  pub destination_is : IsAddressText p.family destination p.dst
  pub words_are : text ≡ source ++ spaced (destination ∷ words_behind p)
  pub packet : IsPacket p

-- The text that is put: the addresses are printed as they are everywhere.
unfoldable pub packet_text : Packet → List ℕ
packet_text p = address_text p.family p.src ++ spaced (address_text p.family p.dst ∷ words_behind p)
