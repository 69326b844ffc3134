-- What the chains of a document do to a packet.
-- Sources: nft(8), "CHAINS" (the policy of a base chain), "STATEMENTS" (verdicts end the walk over a
-- chain's rules, `log` does not), "CONNTRACK EXPRESSIONS" (states); RFC 9293 section 3.1 for flags.
use Rattle.std.specs.Prelude.{ℕ, Bool, true, not, ◌&&◌, ◌==◌, if◌then◌else◌, List, [], ◌∷◌, Option, None, Some, unwrap_or}
use Rattle.acl_packet.specs.declared.packets.Packet.{Packet}
use Rattle.acl_packet.specs.declared.filtering.Outcome.{Outcome}
use Rattle.acl_packet.specs.declared.filtering.Verdict.{Verdict}
use Rattle.acl_packet.specs.declared.filtering.Verdict.TheVariants.{Accept, Deny}
use Rattle.acl_packet.specs.Addresses.{covers, same_family}
use Rattle.acl_packet.specs.Outcomes.{unlogged}
use Rattle.acl_packet.specs.Packets.{has_flag}
use Rattle.acl_rows.specs.Documents.{outcome_at}
use Rattle.acl_rows.specs.RuleParts.{addresses_hold, number_holds, ports_hold, set_holds, state_holds}
use Rattle.nft_lang.specs.declared.documents.Section.{Section}
use Rattle.nft_lang.specs.declared.documents.Item.{Item}
use Rattle.nft_lang.specs.declared.documents.Item.TheVariants.{Remark, Rule as ARule}
use Rattle.nft_lang.specs.declared.documents.Rule.{Rule}
use Rattle.nft_lang.specs.declared.documents.Flags.{Flags}
use Rattle.nft_lang.specs.declared.documents.Flags.TheVariants.{Rst, SynNotAck}

-- SYN is 2, RST 4 and ACK 16.
abbrev pub flags_hold : Option Flags → ℕ → Bool
flags_hold None flags = true
flags_hold (Some Rst) flags = has_flag flags 4
flags_hold (Some SynNotAck) flags = has_flag flags 2 && not (has_flag flags 16)

-- A rule holds a packet where each of its parts does: family and protocol, addresses, ports, types and
-- codes of ICMP, flags and state.
abbrev pub protocol_holds : Rule → Packet → Bool
protocol_holds r p = same_family r.family p.family && number_holds r.proto p.proto

abbrev pub icmp_holds : Rule → Packet → Bool
icmp_holds r p =
    set_holds (λ t n. n == t) r.itypes p.itype && set_holds (λ c n. n == c) r.icodes p.icode

abbrev pub tests_hold : Rule → Packet → Bool
tests_hold r p = icmp_holds r p && (flags_hold r.flags p.flags && state_holds r.state p.conn)

abbrev pub rule_holds : Rule → Packet → Bool
rule_holds r p = protocol_holds r p
    && (addresses_hold r.src r.dst p && (ports_hold r.sports r.dports p && tests_hold r p))

-- What a rule decides, with its log.
abbrev pub decided_by : Rule → Outcome
decided_by r = record { verdict = r.verdict; logged = r.log }

-- The first rule that holds the packet decides.
unfoldable pub first_holding : List Item → Packet → Option Outcome
first_holding [] p = None
first_holding (Remark text ∷ items) p = first_holding items p
first_holding (ARule r ∷ items) p =
    if rule_holds r p then Some (decided_by r) else first_holding items p

-- Where none does, the chain's policy decides.
abbrev pub policy_verdict : Bool → Verdict
policy_verdict accept = if accept then Accept else Deny

abbrev pub walk : Bool → List Item → Packet → Outcome
walk accept items p = unwrap_or (first_holding items p) (unlogged (policy_verdict accept))

-- What a section does, where the packet is of one of its families.
unfoldable pub section_outcome : Section → Packet → Option Outcome
section_outcome s p =
    if covers s.families p.family then Some (walk s.accept s.items p) else None

-- What the section at that place does; nothing where there is none.
abbrev pub outcome_of : List Section → ℕ → Packet → Option Outcome
outcome_of doc which p = outcome_at section_outcome doc which p
