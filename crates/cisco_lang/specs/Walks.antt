-- What the lists of a document do to a packet.
-- Sources: Cisco IOS Security Command Reference, "access-list (IP extended)" (an implicit deny at
-- the end; an interface whose list has no entry lets all pass); Cisco IOS IPv6 Command Reference,
-- "ipv6 access-list" (the implicit permit of neighbour advertisements and solicitations before the
-- implicit deny); RFC 4861 section 4 for their types.
use Rattle.std.specs.Prelude.{ℕ, Bool, true, false, not, ◌&&◌, ◌||◌, nat_le, if◌then◌else◌, List, [], ◌∷◌, Option, None, Some, unwrap_or}
use Rattle.std.specs.List.{list_any}
use Rattle.acl_packet.specs.declared.addresses.Family.{Family}
use Rattle.acl_packet.specs.declared.addresses.Family.TheVariants.{V4, V6}
use Rattle.acl_packet.specs.declared.packets.Packet.{Packet}
use Rattle.acl_packet.specs.declared.filtering.Outcome.{Outcome}
use Rattle.acl_packet.specs.declared.filtering.Verdict.{Verdict}
use Rattle.acl_packet.specs.declared.filtering.Verdict.TheVariants.{Accept, Deny}
use Rattle.acl_packet.specs.Addresses.{covers, has_address, same_family}
use Rattle.acl_packet.specs.Outcomes.{unlogged}
use Rattle.acl_packet.specs.Packets.{has_flag, is_neighbour_discovery}
use Rattle.acl_rows.specs.Documents.{outcome_at}
use Rattle.acl_rows.specs.RuleParts.{number_holds}
use Rattle.cisco_lang.specs.declared.documents.Section.{Section}
use Rattle.cisco_lang.specs.declared.documents.AccessList.{AccessList}
use Rattle.cisco_lang.specs.declared.documents.Item.{Item}
use Rattle.cisco_lang.specs.declared.documents.Item.TheVariants.{Remark, Entry as AnEntry}
use Rattle.cisco_lang.specs.declared.documents.Entry.{Entry}
use Rattle.cisco_lang.specs.declared.documents.Flags.{Flags}
use Rattle.cisco_lang.specs.declared.documents.Flags.TheVariants.{Established, Rst, SynNotAck}

-- A part of an entry that is not written holds every packet.
abbrev pub port_holds : Option (ℕ × ℕ) → ℕ → Bool
port_holds None port = true
port_holds (Some range) port = nat_le range.0 port && nat_le port range.1

-- SYN is 2, RST 4 and ACK 16 (RFC 9293 section 3.1). `established` wants ACK or RST.
abbrev pub flags_hold : Option Flags → ℕ → Bool
flags_hold None flags = true
flags_hold (Some Established) flags = has_flag flags 16 || has_flag flags 4
flags_hold (Some Rst) flags = has_flag flags 4
flags_hold (Some SynNotAck) flags = has_flag flags 2 && not (has_flag flags 16)

-- An entry holds a packet where each of its parts does: protocol and addresses, ports, type and code
-- of ICMP, and flags.
abbrev pub ends_hold : Entry → Packet → Bool
ends_hold e p = number_holds e.proto p.proto && (has_address e.src p.src && has_address e.dst p.dst)

abbrev pub ports_hold : Entry → Packet → Bool
ports_hold e p = port_holds e.sport p.sport && port_holds e.dport p.dport

abbrev pub icmp_holds : Entry → Packet → Bool
icmp_holds e p = number_holds e.itype p.itype && number_holds e.icode p.icode

abbrev pub tests_hold : Entry → Packet → Bool
tests_hold e p = icmp_holds e p && flags_hold e.flags p.flags

abbrev pub entry_holds : Entry → Packet → Bool
entry_holds e p = ends_hold e p && (ports_hold e p && tests_hold e p)

abbrev pub is_entry : Item → Bool
is_entry (Remark text) = false
is_entry (AnEntry e) = true

-- What an entry decides, with its log.
abbrev pub verdict_of : Bool → Verdict
verdict_of permit = if permit then Accept else Deny

abbrev pub decided_by : Entry → Outcome
decided_by e = record { verdict = verdict_of e.permit; logged = e.log }

-- Neighbour discovery passes at the end of an IPv6 list; all else is denied.
abbrev pub ending : Family → Packet → Outcome
ending V4 p = unlogged Deny
ending V6 p = unlogged (verdict_of (is_neighbour_discovery p))

-- The first entry that holds the packet decides, else the end of the list.
unfoldable pub first_holding : List Item → Packet → Option Outcome
first_holding [] p = None
first_holding (Remark text ∷ items) p = first_holding items p
first_holding (AnEntry e ∷ items) p =
    if entry_holds e p then Some (decided_by e) else first_holding items p

abbrev pub has_entries : List Item → Bool
has_entries items = list_any is_entry items

-- What the items of a list do: a list without entries accepts all.
unfoldable pub walk : Family → List Item → Packet → Outcome
walk family items p =
    if has_entries items then unwrap_or (first_holding items p) (ending family p)
    else unlogged Accept

-- The items of a section's list of the family; no list is one without entries.
unfoldable pub items_of : Family → List AccessList → List Item
items_of family [] = []
items_of family (l ∷ lists) = if same_family l.family family then l.items else items_of family lists

-- What a section does, where the packet is of one of its families.
unfoldable pub section_outcome : Section → Packet → Option Outcome
section_outcome s p =
    if covers s.families p.family then Some (walk p.family (items_of p.family s.lists) p) else None

-- What the section at that place does; nothing where there is none.
abbrev pub outcome_of : List Section → ℕ → Packet → Option Outcome
outcome_of doc which p = outcome_at section_outcome doc which p
