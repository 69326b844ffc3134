-- The packet of a text, as the code reads it: a word, and what stands behind the space that follows.
use Rattle.std.specs.Prelude.{ℕ, ◌^◌, Bool, not, ◌&&◌, ◌||◌, ◌==◌, nat_le, nat_lt, if◌then◌else◌, List, codes, Option, None, Some}
use Rattle.std.specs.List.{list_all}
use Rattle.std.specs.Str.{bytes_eq}
use Rattle.acl_packet.specs.Addresses.{same_family, width_of}
use Rattle.acl_packet.specs.Decimals.{number_in}
use Rattle.acl_packet.specs.FieldSteps.{is_fitting}
use Rattle.acl_packet.specs.Packets.{fields, is_extension_header, number_of, top_of}
use Rattle.acl_packet.specs.declared.addresses.Family.{Family}
use Rattle.acl_packet.specs.declared.addresses.Family.TheVariants.{V6}
use Rattle.acl_packet.specs.declared.addresses.Prefix.{Prefix}
use Rattle.acl_packet.specs.declared.packets.Conn.{Conn}
use Rattle.acl_packet.specs.declared.packets.Conn.TheVariants.{New, Established, Related, Invalid}
use Rattle.acl_packet.specs.declared.packets.Packet.{Packet}
use Rattle.acl_text.specs.AddressTexts.{prefix_in}
use Rattle.acl_text.specs.Cuts.{cut_at, has_byte}
use Rattle.acl_text.specs.OptionSteps.{◌>>=◌}

-- An address without a length, as the prefix of it alone.
unfoldable pub alone_in : List ℕ → Option Prefix
alone_in word = if has_byte 47 word then None else prefix_in word

unfoldable pub address_ahead : List ℕ → Option (Prefix × List ℕ)
address_ahead text = do
  w ← cut_at 32 text
  p ← alone_in w.0
  Some (p, w.1)

unfoldable pub number_ahead : ℕ → List ℕ → Option (ℕ × List ℕ)
number_ahead most text = do
  w ← cut_at 32 text
  n ← number_in most w.0
  Some (n, w.1)

unfoldable pub conn_in : List ℕ → Option Conn
conn_in word =
    if bytes_eq word (codes "new") then Some New
    else if bytes_eq word (codes "established") then Some Established
    else if bytes_eq word (codes "related") then Some Related
    else if bytes_eq word (codes "invalid") then Some Invalid
    else None

-- Whether the fields are those of a packet.
unfoldable pub fits : Packet → Bool
fits p = nat_lt p.src (2 ^ width_of p.family) && (nat_lt p.dst (2 ^ width_of p.family)
    && ((not (same_family V6 p.family) || not (is_extension_header p.proto))
    && (list_all (λ field. nat_le (number_of field p) (top_of field)) fields
    && (list_all (is_fitting p) fields && (nat_lt p.flags 64 && (p.proto == 6 || p.flags == 0))))))

abbrev pub if_fits : Packet → Option Packet
if_fits p = if fits p then Some p else None

-- The packet of these addresses, and of the words behind them.
unfoldable pub packet_behind : Family → ℕ → ℕ → List ℕ → Option Packet
packet_behind family src dst text = do
  proto ← number_ahead 255 text
  sport ← number_ahead 65535 proto.1
  dport ← number_ahead 65535 sport.1
  flags ← number_ahead 255 dport.1
  itype ← number_ahead 255 flags.1
  icode ← number_ahead 255 itype.1
  conn ← conn_in icode.1
  if_fits (record {
    src = src;
    dst = dst;
    sport = sport.0;
    dport = dport.0;
    family = family;
    proto = proto.0;
    flags = flags.0;
    itype = itype.0;
    icode = icode.0;
    conn = conn;
  })

-- The packet of the text, where it is one's.
unfoldable pub packet_in : List ℕ → Option Packet
packet_in text = do
  source ← address_ahead text
  destination ← address_ahead source.1
  if same_family source.0.family destination.0.family
      then packet_behind source.0.family source.0.first destination.0.first destination.1 else None
