-- What the constant sides of boxes hold.
use Rattle.std.proofs.Common.{◌≡◌, ℕ, ◌<◌, ◌≤◌, true, not, eqb, nat_le, ◌&&◌, ◌||◌, ◌==◌, refl, arith, inl, inr}
use Rattle.std.proofs.lemmas.Bool.{and_from, and_right, or_from, or_left, le-leb, lt-leb, ne_eqb, cases_eq, cases_lt, agree_below_at}
use Rattle.acl_packet.specs.declared.addresses.Family.{Family}
use Rattle.acl_packet.specs.declared.addresses.Family.TheVariants.{V4, V6}
use Rattle.acl_packet.specs.declared.packets.Conn.{Conn}
use Rattle.acl_packet.specs.declared.packets.Conn.TheVariants.{New, Established, Related, Invalid}
use Rattle.acl_packet.specs.declared.packets.Packet.{Packet}
use Rattle.acl_packet.specs.Addresses.{top_address}
use Rattle.acl_packet.specs.Packets.{has_flag, has_ports, is_extension_header, is_icmp, is_tracked}
use Rattle.acl_sets.specs.Ranges.{holds}
use Rattle.term_boxes.specs.Coordinates.{FieldsFit, place_of_connection, place_of_flags}
use Rattle.term_boxes.specs.NumberSets.{ack_or_rst, but_icmp, but_tcp, extension_headers, from_one, initial, neither_ack_nor_rst, no_rst, not_initial, rst, server_ports, tcp, tracked, untracked, up_to, without_ports}
use Rattle.term_boxes.proofs.CoordinateLaws.{packet-back}

-- ---- all numbers

pub up-to-holds : (top x : ℕ) → x ≤ top → holds (up_to top).ranges x ≡ true
up-to-holds top x le = or_left _ _ (and_from _ _ (le-leb 0 x (omega arith)) (le-leb x top le))

pub from-one-holds : (top x : ℕ) → x ≤ top → holds (from_one top).ranges x ≡ not (eqb x 0)
from-one-holds top x le = elim (cases_eq x 0) [
  | inl e ↦ rw e refl
  | inr ne ↦ rw (ne_eqb x 0 ne) (or_left _ _ (and_from _ _ (le-leb 1 x (omega arith)) (le-leb x top le)))
]

-- Where a packet's fields fit, the set of all numbers of a coordinate holds its number.
pub record AreAll (p : Packet) : Type 0 where
  pub source : holds (up_to (top_address p.family)).ranges p.src ≡ true
  pub destination : holds (up_to (top_address p.family)).ranges p.dst ≡ true
  pub protocol : holds (up_to 255).ranges p.proto ≡ true
  pub source_port : holds (up_to 65535).ranges p.sport ≡ true
  pub destination_port : holds (up_to 65535).ranges p.dport ≡ true
  pub kind : holds (up_to 255).ranges p.itype ≡ true
  pub code : holds (up_to 255).ranges p.icode ≡ true
  pub flag : holds (up_to 63).ranges (place_of_flags p.flags) ≡ true
  pub connection : holds (up_to 3).ranges (place_of_connection p.conn) ≡ true

pub are-all : (p : Packet) → FieldsFit p → AreAll p
are-all p fits =
    let within = (packet-back p fits).0 in
    record {
      source = up-to-holds (top_address p.family) p.src within.0;
      destination = up-to-holds (top_address p.family) p.dst within.1.0;
      protocol = up-to-holds 255 p.proto within.1.1.0;
      source_port = up-to-holds 65535 p.sport within.1.1.1.0;
      destination_port = up-to-holds 65535 p.dport within.1.1.1.1.0;
      kind = up-to-holds 255 p.itype within.1.1.1.1.1.0;
      code = up-to-holds 255 p.icode within.1.1.1.1.1.1.0;
      flag = up-to-holds 63 (place_of_flags p.flags) within.1.1.1.1.1.1.1.0;
      connection = up-to-holds 3 (place_of_connection p.conn) within.1.1.1.1.1.1.1.1.0;
    }

-- ---- protocols and ports

pub without-ports-holds : (x : ℕ) → x < 256 → holds without_ports.ranges x ≡ not (has_ports x)
without-ports-holds x lt = agree_below_at (λ n. holds without_ports.ranges n) (λ n. not (has_ports n)) 256 x refl lt

pub tcp-holds : (x : ℕ) → x < 256 → holds tcp.ranges x ≡ (x == 6)
tcp-holds x lt = agree_below_at (λ n. holds tcp.ranges n) (λ n. n == 6) 256 x refl lt

pub but-tcp-holds : (x : ℕ) → x < 256 → holds but_tcp.ranges x ≡ not (x == 6)
but-tcp-holds x lt = agree_below_at (λ n. holds but_tcp.ranges n) (λ n. not (n == 6)) 256 x refl lt

pub but-icmp-holds : (f : Family) (x : ℕ) → x < 256 → holds (but_icmp f).ranges x ≡ not (is_icmp f x)
but-icmp-holds V4 x lt = agree_below_at (λ n. holds (but_icmp V4).ranges n) (λ n. not (is_icmp V4 n)) 256 x refl lt
but-icmp-holds V6 x lt = agree_below_at (λ n. holds (but_icmp V6).ranges n) (λ n. not (is_icmp V6 n)) 256 x refl lt

pub headers-hold : (x : ℕ) → x < 256 → holds extension_headers.ranges x ≡ is_extension_header x
headers-hold x lt = agree_below_at (λ n. holds extension_headers.ranges n) is_extension_header 256 x refl lt

pub server-holds : (x : ℕ) → x ≤ 65535 → holds server_ports.ranges x ≡ not (nat_le 1024 x)
server-holds x le = elim (cases_lt x 1024) [
  | inl l ↦ rw (lt-leb 1024 x l) (or_left _ _ (and_from _ _ (le-leb 0 x (omega arith)) (le-leb x 1023 (omega (arith, l)))))
  | inr l ↦ rw (le-leb 1024 x l) (or_from _ _ (and_right _ _ (lt-leb x 1023 (omega (arith, l)))) refl)
]

-- ---- flags and connections

pub flags-zero : (x : ℕ) → x < 64 → eqb (place_of_flags x) 0 ≡ eqb x 0
flags-zero x lt = agree_below_at (λ n. eqb (place_of_flags n) 0) (λ n. eqb n 0) 64 x refl lt

pub ack-or-rst-holds : (x : ℕ) → x < 64 → holds ack_or_rst.ranges (place_of_flags x) ≡ (has_flag x 16 || has_flag x 4)
ack-or-rst-holds x lt = agree_below_at (λ n. holds ack_or_rst.ranges (place_of_flags n)) (λ n. has_flag n 16 || has_flag n 4) 64 x refl lt

pub neither-holds : (x : ℕ) → x < 64 → holds neither_ack_nor_rst.ranges (place_of_flags x) ≡ not (has_flag x 16 || has_flag x 4)
neither-holds x lt = agree_below_at (λ n. holds neither_ack_nor_rst.ranges (place_of_flags n)) (λ n. not (has_flag n 16 || has_flag n 4)) 64 x refl lt

pub initial-holds : (x : ℕ) → x < 64 → holds initial.ranges (place_of_flags x) ≡ (has_flag x 2 && not (has_flag x 16))
initial-holds x lt = agree_below_at (λ n. holds initial.ranges (place_of_flags n)) (λ n. has_flag n 2 && not (has_flag n 16)) 64 x refl lt

pub not-initial-holds : (x : ℕ) → x < 64 → holds not_initial.ranges (place_of_flags x) ≡ not (has_flag x 2 && not (has_flag x 16))
not-initial-holds x lt = agree_below_at (λ n. holds not_initial.ranges (place_of_flags n)) (λ n. not (has_flag n 2 && not (has_flag n 16))) 64 x refl lt

pub rst-holds : (x : ℕ) → x < 64 → holds rst.ranges (place_of_flags x) ≡ has_flag x 4
rst-holds x lt = agree_below_at (λ n. holds rst.ranges (place_of_flags n)) (λ n. has_flag n 4) 64 x refl lt

pub no-rst-holds : (x : ℕ) → x < 64 → holds no_rst.ranges (place_of_flags x) ≡ not (has_flag x 4)
no-rst-holds x lt = agree_below_at (λ n. holds no_rst.ranges (place_of_flags n)) (λ n. not (has_flag n 4)) 64 x refl lt

pub tracked-holds : (c : Conn) → holds tracked.ranges (place_of_connection c) ≡ is_tracked c
tracked-holds New = refl
tracked-holds Established = refl
tracked-holds Related = refl
tracked-holds Invalid = refl

pub untracked-holds : (c : Conn) → holds untracked.ranges (place_of_connection c) ≡ not (is_tracked c)
untracked-holds New = refl
untracked-holds Established = refl
untracked-holds Related = refl
untracked-holds Invalid = refl
