-- Sets of numbers along a coordinate that do not depend on a term.
use Rattle.std.specs.Prelude.{ℕ, List, [], ◌∷◌}
use Rattle.acl_packet.specs.declared.addresses.Family.{Family}
use Rattle.acl_packet.specs.declared.addresses.Family.TheVariants.{V4, V6}
use Rattle.acl_sets.specs.declared.sets.Range.{Range}
use Rattle.acl_sets.specs.ComputableSets.{cut_all}
use Rattle.acl_sets.specs.Ranges.{Numbers}

abbrev pub run : ℕ → ℕ → Range
run low high = record { low = low; high = high }

abbrev pub set_of : ℕ → List Range → Numbers
set_of top ranges = record { top = top; ranges = ranges }

abbrev pub up_to : ℕ → Numbers
up_to top = set_of top (run 0 top ∷ [])

-- All numbers but 0.
abbrev pub from_one : ℕ → Numbers
from_one top = set_of top (run 1 top ∷ [])

-- The numbers up to the set's top that it lacks.
abbrev pub outside : Numbers → Numbers
outside s = set_of s.top (cut_all s.ranges (run 0 s.top ∷ []))

-- ---- protocols

-- TCP alone.
abbrev pub tcp : Numbers
tcp = set_of 255 (run 6 6 ∷ [])

-- The protocols without ports: all but TCP, 6, UDP, 17, and SCTP, 132 (RFC 9293, RFC 768, RFC 9260).
abbrev pub without_ports : Numbers
without_ports = set_of 255 (run 0 5 ∷ run 7 16 ∷ run 18 131 ∷ run 133 255 ∷ [])

-- All protocols but TCP.
abbrev pub but_tcp : Numbers
but_tcp = set_of 255 (run 0 5 ∷ run 7 255 ∷ [])

-- All but the family's ICMP: 1 (RFC 792), or 58 (RFC 4443).
abbrev pub but_icmp : Family → Numbers
but_icmp V4 = set_of 255 (run 0 0 ∷ run 2 255 ∷ [])
but_icmp V6 = set_of 255 (run 0 57 ∷ run 59 255 ∷ [])

-- Those that stand for no protocol in IPv6: 0, 43, 44, 51, 59, 60, 135, 139 and 140 (RFC 8200, IANA's list of
-- extension headers).
abbrev pub extension_headers : Numbers
extension_headers = set_of 255 (run 0 0 ∷ run 43 44 ∷ run 51 51 ∷ run 59 60 ∷ run 135 135 ∷ run 139 140 ∷ [])

-- ---- ports

-- The ports that a client has, and the others.
abbrev pub client_ports : Numbers
client_ports = set_of 65535 (run 1024 65535 ∷ [])

abbrev pub server_ports : Numbers
server_ports = set_of 65535 (run 0 1023 ∷ [])

-- ---- flags and connections

-- Flags by their places: ACK counts 32, RST 16 and SYN 8, and the others 7 together.
abbrev pub ack_or_rst : Numbers
ack_or_rst = set_of 63 (run 16 63 ∷ [])

abbrev pub neither_ack_nor_rst : Numbers
neither_ack_nor_rst = set_of 63 (run 0 15 ∷ [])

abbrev pub initial : Numbers
initial = set_of 63 (run 8 15 ∷ run 24 31 ∷ [])

abbrev pub not_initial : Numbers
not_initial = set_of 63 (run 0 7 ∷ run 16 23 ∷ run 32 63 ∷ [])

abbrev pub rst : Numbers
rst = set_of 63 (run 16 31 ∷ run 48 63 ∷ [])

abbrev pub no_rst : Numbers
no_rst = set_of 63 (run 0 15 ∷ run 32 47 ∷ [])

-- Connections by their places: Established is 2 and Related 3.
abbrev pub tracked : Numbers
tracked = set_of 3 (run 2 3 ∷ [])

abbrev pub untracked : Numbers
untracked = set_of 3 (run 0 1 ∷ [])
