-- What private functions give on the way to a term's sets.
use Rattle.std.specs.Prelude.{◌≡◌, ◌≢◌, ℕ, Bool, ◌||◌, List, [], Option, Some, flat_map, option_to_list}
use Rattle.std.specs.List.{list_any}
use Rattle.std.specs.Option.{option_or}
use Rattle.acl_packet.specs.declared.addresses.Family.{Family}
use Rattle.acl_sets.specs.declared.sets.Range.{Range}
use Rattle.acl_sets.specs.Ranges.{Numbers, holds}
use Rattle.acl_text.specs.declared.faults.Code.TheVariants as codes
use Rattle.acl_text.specs.declared.faults.Slip.{Slip}
use Rattle.acl_text.specs.Refusals.{first_in}
use Rattle.acl_policy.specs.RawTerms.{RawTerm}
use Rattle.acl_words.specs.declared.word_lists.Word.{Word}
use Rattle.acl_naming.specs.Definitions.{Definition, Naming}
use Rattle.acl_naming.specs.Ports.{top_port}
use Rattle.acl_terms.specs.declared.ends.Ends.{Ends}
use Rattle.acl_terms.specs.declared.protocols.FewProtocols.{FewProtocols}
use Rattle.acl_terms.specs.declared.protocols.FewProtocols.TheVariants.{One, Two}
use Rattle.acl_terms.specs.declared.resolving.NumberSets.{NumberSets}
use Rattle.acl_terms.specs.Matching.{Admits, IsPort, code_in, type_in}
use Rattle.acl_terms.specs.Sets.{IsSetOf, Sets, by_field}
use Rattle.acl_terms.specs.Slips.{first_unless, is_defined, network_slip, reaches_protocol, unless}

-- The type is one of theirs, where any is written.
abbrev pub IsType : Option Family → List Word → ℕ → Type 0
IsType family words x = Admits (λ w. type_in family w.text ≡ Some x) words

-- The code is.
abbrev pub IsCode : List Word → ℕ → Type 0
IsCode words x = Admits (λ w. code_in w.text ≡ Some x) words

-- The numbers of the words of `icmp-code::`.
abbrev pub codes_of : List Word → List ℕ
codes_of words = flat_map (λ w. option_to_list (code_in w.text)) words

-- The ports with the protocols: from which, to which, and those of either. They are some, where some protocol is named
-- wherever ports are.
abbrev pub IsPortSet : Naming → List ℕ → RawTerm → Numbers → Numbers → Numbers → Type 0
IsPortSet n protos t sports dports ports =
    IsSetOf (IsPort n protos t.source_ports) top_port sports
    × IsSetOf (IsPort n protos t.destination_ports) top_port dports
    × IsSetOf (IsPort n protos t.ports) top_port ports
    × (sports.ranges ≢ []) × (dports.ranges ≢ []) × (ports.ranges ≢ [])

-- The numbers of a few protocols.
abbrev pub few_numbers : FewProtocols → List ℕ
few_numbers (One numbers) = numbers
few_numbers (Two numbers) = numbers

abbrev pub single : ℕ → Range
single n = record { low = n; high = n }

-- The questions on a word of ports, with one protocol.
abbrev pub protocol_slip : List Definition → ℕ → Word → Option Slip
protocol_slip services q w =
    option_or (unless (is_defined services w.text) codes.UnknownName w)
    (unless (reaches_protocol services w.text q) codes.NoPortForProtocol w)

-- The question on protocols, end by end.
abbrev pub ports_by_ends_slip : Bool → RawTerm → Option Slip
ports_by_ends_slip passed t =
    option_or (option_or (first_unless passed codes.PortProtocol t.source_ports)
    (first_unless passed codes.PortProtocol t.destination_ports))
    (first_unless passed codes.PortProtocol t.ports)

-- The questions on names, end by end.
abbrev pub ends_slip : List Definition → RawTerm → Option Slip
ends_slip networks t =
    option_or (option_or (option_or (first_in (network_slip networks) t.sources)
    (first_in (network_slip networks) t.source_excludes))
    (option_or (first_in (network_slip networks) t.destinations)
    (first_in (network_slip networks) t.destination_excludes)))
    (first_in (network_slip networks) t.addresses)

-- A range of the one set begins in the other.
abbrev pub meet : Numbers → Numbers → Bool
meet s other = list_any (λ r. holds s.ranges r.low) other.ranges || list_any (λ r. holds other.ranges r.low) s.ranges

-- The sets of a term: those of its ends, and the others.
abbrev pub sets_by : Ends → NumberSets → Sets
sets_by e p = record {
  src4 = e.src.v4;
  src6 = e.src.v6;
  dst4 = e.dst.v4;
  dst6 = e.dst.v6;
  addr4 = e.either.v4;
  addr6 = e.either.v6;
  numbers = by_field p.protos p.ports.sports p.ports.dports p.itypes p.icodes;
  ports = p.ports.ports;
}
