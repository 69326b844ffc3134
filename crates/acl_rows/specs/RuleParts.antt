-- Parts of rules that several languages have, and which packets they hold.
use Rattle.std.specs.Prelude.{ℕ, ◌≤◌, Bool, true, false, ◌&&◌, ◌||◌, ◌==◌, nat_le, List, [], ◌∷◌, Option, None, Some, codes}
use Rattle.std.specs.List.{list_any}
use Rattle.acl_packet.specs.declared.addresses.Family.{Family}
use Rattle.acl_packet.specs.declared.addresses.Prefix.{Prefix}
use Rattle.acl_packet.specs.declared.packets.Conn.{Conn}
use Rattle.acl_packet.specs.declared.packets.Packet.{Packet}
use Rattle.acl_packet.specs.Addresses.{IsPrefixOf, has_address}
use Rattle.acl_packet.specs.Packets.{has_ports, is_tracked}

abbrev pub is_empty : {A : Type 0} → List A → Bool
is_empty [] = true
is_empty (x ∷ xs) = false

-- A protocol is asked for, and is the one.
abbrev pub is_proto : Option ℕ → ℕ → Bool
is_proto None number = false
is_proto (Some proto) number = proto == number

-- A protocol is asked for, and has ports: TCP, UDP or SCTP.
abbrev pub has_port_proto : Option ℕ → Bool
has_port_proto None = false
has_port_proto (Some proto) = has_ports proto

-- A prefix of the family that is written: one of length 0 holds all addresses, and is no condition.
abbrev pub IsAddresses : Family → Prefix → Type 0
IsAddresses family p = IsPrefixOf family p × (1 ≤ p.len)

-- A part that is not written holds every packet.
abbrev pub number_holds : Option ℕ → ℕ → Bool
number_holds None number = true
number_holds (Some wanted) number = number == wanted

-- A number that is written is neither below the least nor above the most.
abbrev pub number_fits : ℕ → ℕ → Option ℕ → Bool
number_fits least most None = true
number_fits least most (Some number) = nat_le least number && nat_le number most

-- A list holds a value that one of its elements holds. One without elements is not written, and holds
-- all.
abbrev pub set_holds : {A : Type 0} → (A → ℕ → Bool) → List A → ℕ → Bool
set_holds has elements value = is_empty elements || list_any (λ e. has e value) elements

abbrev pub has_port : ℕ × ℕ → ℕ → Bool
has_port ports port = nat_le ports.0 port && nat_le port ports.1

-- What is written of sources and destinations holds a packet, end by end.
abbrev pub addresses_hold : List Prefix → List Prefix → Packet → Bool
addresses_hold src dst p = set_holds has_address src p.src && set_holds has_address dst p.dst

abbrev pub ports_hold : List (ℕ × ℕ) → List (ℕ × ℕ) → Packet → Bool
ports_hold sports dports p = set_holds has_port sports p.sport && set_holds has_port dports p.dport

-- Where a known connection is asked for, the packet belongs to one.
abbrev pub state_holds : Bool → Conn → Bool
state_holds true conn = is_tracked conn
state_holds false conn = true

-- The word for a log, where one is asked for.
unfoldable pub log_words : Bool → List (List ℕ)
log_words true = codes "log" ∷ []
log_words false = []
