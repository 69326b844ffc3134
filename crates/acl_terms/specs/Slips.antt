-- The first slip of a term: the first of the questions on it that has an answer.
use Rattle.std.specs.Prelude.{ℕ, Bool, true, false, ◌||◌, ◌==◌, if◌then◌else◌, List, [], ◌∷◌, ◌++◌, Option, None, Some, is_some}
use Rattle.std.specs.List.{list_any, list_all}
use Rattle.std.specs.Str.{bytes_eq}
use Rattle.std.specs.Option.{option_or}
use Rattle.acl_packet.specs.declared.addresses.Family.{Family}
use Rattle.acl_packet.specs.declared.filtering.Verdict.{Verdict}
use Rattle.acl_packet.specs.declared.filtering.Verdict.TheVariants.{Reset}
use Rattle.acl_packet.specs.Packets.{has_ports}
use Rattle.acl_text.specs.declared.faults.Code.{Code}
use Rattle.acl_text.specs.declared.faults.Code.TheVariants as codes
use Rattle.acl_text.specs.declared.faults.Slip.{Slip}
use Rattle.acl_text.specs.Refusals.{first_in, first_some, slip}
use Rattle.acl_words.specs.declared.word_lists.Word.{Word}
use Rattle.acl_policy.specs.RawTerms.{RawTerm}
use Rattle.acl_naming.specs.Definitions.{Definition, Naming, index_of}
use Rattle.acl_naming.specs.Reach.{is_service_of}
use Rattle.acl_terms.specs.declared.options.Opt.{Opt}
use Rattle.acl_terms.specs.declared.options.Opt.TheVariants.{Plain, Established}
use Rattle.acl_terms.specs.Matching.{protocols_of, only, is_number, icmp_family, type_in, types_of}
use Rattle.acl_terms.specs.Options.{option_of, verdict_of}
use Rattle.acl_naming.specs.ComputableReach.{items_reached}

-- ---- answers

abbrev pub slip_at : Code → Word → Slip
slip_at code w = slip code w.place w.text

-- The slip at the word, unless a test is passed.
abbrev pub unless : Bool → Code → Word → Option Slip
unless passed code w = if passed then None else Some (slip_at code w)

-- The same at the first of the words: where none is written there is no slip.
abbrev pub first_unless : Bool → Code → List Word → Option Slip
first_unless passed code [] = None
first_unless passed code (w ∷ ws) = unless passed code w

-- ---- the questions

abbrev pub is_defined : List Definition → List ℕ → Bool
is_defined base name = is_some (index_of base name)

-- Whether the name reaches ports of the protocol.
unfoldable pub reaches_protocol : List Definition → List ℕ → ℕ → Bool
reaches_protocol base name q = list_any (is_service_of q) (items_reached base name)

-- The words that name addresses, in the order of the fields.
abbrev pub address_words : RawTerm → List Word
address_words t =
    t.sources ++ t.source_excludes ++ (t.destinations ++ t.destination_excludes) ++ t.addresses

-- The words that name ports, in the order of the fields.
abbrev pub port_words : RawTerm → List Word
port_words t = t.source_ports ++ t.destination_ports ++ t.ports

-- Which name of addresses is the first that no network has?
abbrev pub network_slip : List Definition → Word → Option Slip
network_slip networks w = unless (is_defined networks w.text) codes.UnknownName w

abbrev pub networks_slip : List Definition → RawTerm → Option Slip
networks_slip networks t = first_in (network_slip networks) (address_words t)

-- Are ports named, though the protocols are not some of TCP, UDP and SCTP? The slip is at the first of them.
abbrev pub port_protocol_slip : List ℕ → RawTerm → Option Slip
port_protocol_slip protos t = first_unless (only has_ports protos) codes.PortProtocol (port_words t)

-- Which name of ports is the first that no service has, or that reaches no ports of one of the protocols?
abbrev pub service_slip : List Definition → List ℕ → Word → Option Slip
service_slip services protos w =
    option_or (unless (is_defined services w.text) codes.UnknownName w)
    (unless (list_all (reaches_protocol services w.text) protos) codes.NoPortForProtocol w)

abbrev pub services_slip : List Definition → List ℕ → RawTerm → Option Slip
services_slip services protos t = first_in (service_slip services protos) (port_words t)

-- Which ICMP type is the first that is none of the family whose ICMP is the only protocol?
abbrev pub type_slip : Option Family → Word → Option Slip
type_slip family w = unless (is_some (type_in family w.text)) codes.IcmpProtocol w

abbrev pub types_slip : List ℕ → RawTerm → Option Slip
types_slip protos t = first_in (type_slip (icmp_family protos)) t.icmp_types

-- Are codes named, though the numbers of the types are not exactly one? The slip is at the first of them.
abbrev pub are_one : List ℕ → Bool
are_one [] = false
are_one (n ∷ ns) = list_all (is_number n) ns

abbrev pub codes_slip : List ℕ → RawTerm → Option Slip
codes_slip protos t =
    first_unless (are_one (types_of (icmp_family protos) t.icmp_types)) codes.IcmpCode t.icmp_codes

-- Which option is the first that is another than the first one?
abbrev pub same_slip : Word → Word → Option Slip
same_slip w v = unless (bytes_eq v.text w.text) codes.OptionClash v

abbrev pub clash_slip : List Word → Option Slip
clash_slip [] = None
clash_slip (w ∷ ws) = first_in (same_slip w) ws

-- Is there an option that asks for TCP, though TCP is not the only protocol? `established` takes UDP too.
abbrev pub is_tcp_or_udp : ℕ → Bool
is_tcp_or_udp n = n == 6 || n == 17

abbrev pub option_fits : Opt → List ℕ → Bool
option_fits Plain protos = true
option_fits Established protos = only is_tcp_or_udp protos
option_fits option protos = only (is_number 6) protos

abbrev pub option_slip : List ℕ → List Word → Option Slip
option_slip protos words =
    first_unless (option_fits (option_of words) protos) codes.OptionProtocol words

-- Is the action a reset of TCP, though TCP is not the only protocol?
abbrev pub verdict_fits : Verdict → List ℕ → Bool
verdict_fits Reset protos = only (is_number 6) protos
verdict_fits verdict protos = true

abbrev pub reset_slip : List ℕ → Word → Option Slip
reset_slip protos w = unless (verdict_fits (verdict_of w.text) protos) codes.ResetProtocol w

-- ---- the whole term

-- The questions on its words and not on names.
abbrev pub words_slips : List ℕ → RawTerm → List (Option Slip)
words_slips protos t = types_slip protos t ∷ codes_slip protos t ∷ clash_slip t.options
    ∷ option_slip protos t.options ∷ reset_slip protos t.action ∷ []

-- All questions, in the order in which they are asked.
abbrev pub questions : Naming → List ℕ → RawTerm → List (Option Slip)
questions n protos t = networks_slip n.networks t ∷ port_protocol_slip protos t
    ∷ services_slip n.services protos t ∷ words_slips protos t

unfoldable pub slip_of : Naming → RawTerm → Option Slip
slip_of n t = first_some (questions n (protocols_of t.protocols) t)
