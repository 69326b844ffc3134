-- A term as boxes: those of the packets that it matches, and those of the packets in its own sets that it does not.
use Rattle.std.specs.Prelude.{◌≡◌, Bool, not, ◌&&◌, if◌then◌else◌, List, [], ◌∷◌, ◌++◌, flat_map}
use Rattle.std.specs.List.{AllByRecursion, list_any}
use Rattle.acl_packet.specs.declared.addresses.Family.{Family}
use Rattle.acl_packet.specs.declared.packets.Packet.{Packet}
use Rattle.acl_packet.specs.Packets.{IsPacket, foreign_of}
use Rattle.acl_sets.specs.ComputableSets.{cut_all, is_all}
use Rattle.acl_sets.specs.Ranges.{Numbers}
use Rattle.acl_terms.specs.declared.options.Mode.{Mode}
use Rattle.acl_terms.specs.declared.options.Mode.TheVariants.{Stateful, Stateless}
use Rattle.acl_terms.specs.declared.options.Opt.{Opt}
use Rattle.acl_terms.specs.declared.options.Opt.TheVariants.{Plain, Established, TcpEstablished, TcpInitial, Rst}
use Rattle.acl_terms.specs.declared.sides.Side.TheVariants.{Whole}
use Rattle.acl_terms.specs.declared.sides.SidePair.{SidePair}
use Rattle.acl_terms.specs.declared.terms.Term.{Term}
use Rattle.acl_terms.specs.Resolved.{destinations_on, dports_on, either_in, in_both, matches, pairs_of, sources_on, sports_on}
use Rattle.term_boxes.specs.declared.boxes.PacketBox.{PacketBox}
use Rattle.term_boxes.specs.Boxes.{IsBox, everything, has}
use Rattle.term_boxes.specs.NumberSets.{ack_or_rst, but_tcp, client_ports, initial, neither_ack_nor_rst, no_rst, not_initial, outside, rst, run, server_ports, set_of, tcp, tracked, untracked, up_to}

-- The protocols of a term in a family: where some are named, those without the other family's ICMP.
abbrev pub protocols_in : Family → Term → Numbers
protocols_in f t =
    if is_all t.protos then t.protos
    else set_of t.protos.top (cut_all (run (foreign_of f) (foreign_of f) ∷ []) t.protos.ranges)

-- ---- the sets of a term

-- The sets of the term on a pair of its sides, whatever its option is.
abbrev pub pair_box : Family → Term → SidePair → PacketBox
pair_box f t pair = record {
  sources = sources_on pair.addresses f t;
  destinations = destinations_on pair.addresses f t;
  protocols = protocols_in f t;
  source_ports = sports_on pair.ports t;
  destination_ports = dports_on pair.ports t;
  types = t.itypes;
  codes = t.icodes;
  flags = up_to 63;
  connections = up_to 3;
}

-- The term's own sets, where nothing is asked of either side.
abbrev pub own_box : Family → Term → PacketBox
own_box f t = pair_box f t (record { addresses = Whole; ports = Whole })

-- ---- what a term matches

-- The destination ports that `established` leaves of protocols other than TCP where connections are not known: where
-- none is named, those that a client has. The flag says that `destination-port::` is written.
abbrev pub established_ports : Bool → Numbers → Numbers
established_ports named s = if named then s else in_both s client_ports

-- So `established` leaves TCP with ACK or RST, and other protocols with these ports.
abbrev pub seeming_established : Bool → PacketBox → List PacketBox
seeming_established named b =
    record b { protocols = in_both b.protocols tcp; flags = ack_or_rst }
    ∷ record b {
      protocols = in_both b.protocols but_tcp;
      destination_ports = established_ports named b.destination_ports;
    }
    ∷ []

-- What an option leaves of a box that has all flags and all connections.
abbrev pub passing : Opt → Mode → Bool → PacketBox → List PacketBox
passing Plain mode named b = b ∷ []
passing Established Stateful named b = record b { connections = tracked } ∷ []
passing Established Stateless named b = seeming_established named b
passing TcpEstablished Stateful named b = record b { connections = tracked } ∷ []
passing TcpEstablished Stateless named b = record b { flags = ack_or_rst } ∷ []
passing TcpInitial mode named b = record b { flags = initial } ∷ []
passing Rst mode named b = record b { flags = rst } ∷ []

unfoldable pub boxes_of : Family → Mode → Term → List PacketBox
boxes_of f mode t = flat_map (λ pair. passing t.option mode t.dport_named (pair_box f t pair)) (pairs_of t)

-- A term matches the packets in its boxes.
abbrev pub TermsAreBoxes : Type 0
TermsAreBoxes = (mode : Mode) (t : Term) (p : Packet) → IsPacket p
    → matches mode t p ≡ list_any (has p) (boxes_of p.family mode t)

-- ---- what keeps a packet in a term's own sets from being matched

-- Neither address is one of those that are asked of either.
abbrev pub failing_addresses : Family → Term → List PacketBox
failing_addresses f t = if t.addr_named
    then record (everything f) { sources = outside (either_in f t); destinations = outside (either_in f t) } ∷ []
    else []

-- Neither port is.
abbrev pub failing_ports : Family → Term → List PacketBox
failing_ports f t = if t.port_named
    then record (everything f) { source_ports = outside t.ports; destination_ports = outside t.ports } ∷ []
    else []

abbrev pub seeming_new : Family → Bool → List PacketBox
seeming_new f named =
    record (everything f) { protocols = tcp; flags = neither_ack_nor_rst }
    ∷ (if named then [] else record (everything f) { protocols = but_tcp; destination_ports = server_ports } ∷ [])

-- What does not pass an option.
abbrev pub failing : Opt → Mode → Bool → Family → List PacketBox
failing Plain mode named f = []
failing Established Stateful named f = record (everything f) { connections = untracked } ∷ []
failing Established Stateless named f = seeming_new f named
failing TcpEstablished Stateful named f = record (everything f) { connections = untracked } ∷ []
failing TcpEstablished Stateless named f = record (everything f) { flags = neither_ack_nor_rst } ∷ []
failing TcpInitial mode named f = record (everything f) { flags = not_initial } ∷ []
failing Rst mode named f = record (everything f) { flags = no_rst } ∷ []

unfoldable pub failing_boxes : Family → Mode → Term → List PacketBox
failing_boxes f mode t = failing_addresses f t ++ (failing_ports f t ++ failing t.option mode t.dport_named f)

-- A term matches the packets in its own sets that are in none of these.
abbrev pub TermsFailInBoxes : Type 0
TermsFailInBoxes = (mode : Mode) (t : Term) (p : Packet) → IsPacket p
    → matches mode t p ≡ (has p (own_box p.family t) && not (list_any (has p) (failing_boxes p.family mode t)))

-- ---- sides

-- The sides of all these boxes are sets of numbers of the family's coordinates.
pub record AreTermBoxes (f : Family) (mode : Mode) (t : Term) : Type 0 where
  pub own : IsBox f (own_box f t)
  pub matching : AllByRecursion (IsBox f) (boxes_of f mode t)
  pub excluded : AllByRecursion (IsBox f) (failing_boxes f mode t)

abbrev pub TermsHaveBoxes : Type 0
TermsHaveBoxes = (f : Family) (mode : Mode) (t : Term) → AreTermBoxes f mode t
