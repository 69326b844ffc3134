-- What the filters of a document do to a packet.
-- Source: Juniper, Routing Policies, Firewall Filters, and Traffic Policers User Guide, "How Standard
-- Firewall Filters Evaluate Packets" (terms in order, the first whose conditions all hold decides; a
-- term without a `from` part holds every packet; the implicit discard at the end of a filter) and
-- "Firewall Filter Match Conditions Based on Bit-Field Values" (`tcp-established`, `tcp-initial`).
use Rattle.std.specs.Prelude.{ℕ, Bool, true, not, ◌&&◌, ◌||◌, if◌then◌else◌, List, [], ◌∷◌, Option, None, Some, nat_eq}
use Rattle.acl_packet.specs.declared.packets.Packet.{Packet}
use Rattle.acl_packet.specs.declared.filtering.Outcome.{Outcome}
use Rattle.acl_packet.specs.declared.filtering.Verdict.TheVariants.{Deny}
use Rattle.acl_packet.specs.Addresses.{same_family}
use Rattle.acl_packet.specs.Outcomes.{unlogged}
use Rattle.acl_packet.specs.Packets.{has_flag}
use Rattle.acl_rows.specs.Documents.{outcome_at}
use Rattle.acl_rows.specs.RuleParts.{addresses_hold, ports_hold, set_holds}
use Rattle.junos_lang.specs.declared.documents.Section.{Section}
use Rattle.junos_lang.specs.declared.documents.JTerm.{JTerm}
use Rattle.junos_lang.specs.declared.documents.JTest.{JTest}
use Rattle.junos_lang.specs.declared.documents.JTest.TheVariants.{Established, Initial, Rst}

-- A condition holds where one of its values does. No values are no condition.
abbrev pub number_holds : List ℕ → ℕ → Bool
number_holds numbers number = set_holds nat_eq numbers number

-- SYN is 2, RST 4 and ACK 16 (RFC 9293 section 3.1). `tcp-established` wants ACK or RST,
-- `tcp-initial` SYN without ACK.
abbrev pub test_holds : Option JTest → ℕ → Bool
test_holds None flags = true
test_holds (Some Established) flags = has_flag flags 16 || has_flag flags 4
test_holds (Some Initial) flags = has_flag flags 2 && not (has_flag flags 16)
test_holds (Some Rst) flags = has_flag flags 4

abbrev pub headers_hold : JTerm → Packet → Bool
headers_hold t p = number_holds t.protos p.proto
    && (number_holds t.itypes p.itype
    && (number_holds t.icodes p.icode && test_holds t.test p.flags))

-- A term holds a packet where each of its conditions does.
abbrev pub term_holds : JTerm → Packet → Bool
term_holds t p =
    addresses_hold t.src t.dst p && (ports_hold t.sports t.dports p && headers_hold t p)

-- What a term decides, with its log.
abbrev pub decided_by : JTerm → Outcome
decided_by t = record { verdict = t.verdict; logged = t.syslog }

-- The first term that holds the packet decides; at the end it is discarded.
unfoldable pub walk : List JTerm → Packet → Outcome
walk [] p = unlogged Deny
walk (t ∷ terms) p = if term_holds t p then decided_by t else walk terms p

-- What a section does, where the packet is of its family.
abbrev pub section_outcome : Section → Packet → Option Outcome
section_outcome s p = if same_family s.family p.family then Some (walk s.terms p) else None

-- What the section at that place does; nothing where there is none.
abbrev pub outcome_of : List Section → ℕ → Packet → Option Outcome
outcome_of doc which p = outcome_at section_outcome doc which p
