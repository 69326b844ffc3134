-- What the rules of a document do to a packet.
-- Sources: iptables(8), "TARGETS" (rules in order; a jump enters a chain, whose end returns; the
-- policy of a built-in chain decides at its end); iptables-extensions(8), "LOG" (a target that does
-- not end the walk), "tcp" (`--tcp-flags`), "icmp" and "icmp6" (`type[/code]`), "state"; RFC 9293
-- section 3.1 for flags.
use Rattle.std.specs.Prelude.{ℕ, Bool, true, false, not, ◌&&◌, if◌then◌else◌, List, [], ◌∷◌, Option, None, Some}
use Rattle.acl_packet.specs.declared.addresses.Prefix.{Prefix}
use Rattle.acl_packet.specs.declared.packets.Packet.{Packet}
use Rattle.acl_packet.specs.declared.filtering.Outcome.{Outcome}
use Rattle.acl_packet.specs.declared.filtering.Verdict.{Verdict}
use Rattle.acl_packet.specs.declared.filtering.Verdict.TheVariants.{Accept, Deny, Left}
use Rattle.acl_packet.specs.Addresses.{has_address, same_family}
use Rattle.acl_packet.specs.Packets.{has_flag}
use Rattle.acl_rows.specs.Documents.{outcome_at}
use Rattle.acl_rows.specs.RuleParts.{number_holds, ports_hold, state_holds}
use Rattle.ipt_lang.specs.declared.documents.Section.{Section}
use Rattle.ipt_lang.specs.declared.documents.Chain.{Chain}
use Rattle.ipt_lang.specs.declared.documents.Rule.{Rule}
use Rattle.ipt_lang.specs.declared.documents.Act.{Act}
use Rattle.ipt_lang.specs.declared.documents.Act.TheVariants.{Log, Decide}
use Rattle.ipt_lang.specs.declared.documents.Flags.{Flags}
use Rattle.ipt_lang.specs.declared.documents.Flags.TheVariants.{Ack, Rst, SynNotAck}

-- A part of a rule that is not written holds every packet.
abbrev pub address_holds : Option Prefix → ℕ → Bool
address_holds None address = true
address_holds (Some prefix) address = has_address prefix address

-- SYN is 2, RST 4 and ACK 16.
abbrev pub flags_hold : Option Flags → ℕ → Bool
flags_hold None flags = true
flags_hold (Some Ack) flags = has_flag flags 16
flags_hold (Some Rst) flags = has_flag flags 4
flags_hold (Some SynNotAck) flags = has_flag flags 2 && not (has_flag flags 16)

-- A rule holds a packet where each of its parts does: protocol and addresses, ports, type and code,
-- flags and state. A type without a code holds every code of its own.
abbrev pub ends_hold : Rule → Packet → Bool
ends_hold r p =
    number_holds r.proto p.proto && (address_holds r.src p.src && address_holds r.dst p.dst)

abbrev pub icmp_holds : Rule → Packet → Bool
icmp_holds r p = number_holds r.itype p.itype && number_holds r.icode p.icode

abbrev pub tests_hold : Rule → Packet → Bool
tests_hold r p =
    icmp_holds r p && (flags_hold r.flags p.flags && state_holds r.state p.conn)

abbrev pub rule_holds : Rule → Packet → Bool
rule_holds r p = ends_hold r p && (ports_hold r.sports r.dports p && tests_hold r p)

-- What a packet has met so far is an outcome, `Left` while no rule has decided.
abbrev pub outcome_so_far : Verdict → Bool → Outcome
outcome_so_far verdict logged = record { verdict = verdict; logged = logged }

-- A rule that holds the packet decides, or logs it and lets it go on to the rest.
abbrev pub acted : Act → Bool → Outcome → Outcome
acted Log logged rest = rest
acted (Decide verdict) logged rest = outcome_so_far verdict logged

-- The rules of a chain in order, on a packet that is logged already or not. Its end returns.
unfoldable pub rules_walk : List Rule → Packet → Bool → Outcome
rules_walk [] p logged = outcome_so_far Left logged
rules_walk (r ∷ rules) p logged =
    if rule_holds r p then acted r.act logged (rules_walk rules p true)
    else rules_walk rules p logged

abbrev pub is_left : Verdict → Bool
is_left Left = true
is_left verdict = false

-- The way goes on where no rule has decided.
abbrev pub go_on : Outcome → (Bool → Outcome) → Outcome
go_on o rest = if is_left o.verdict then rest o.logged else o

-- The hook's jumps in order, each into its chain.
unfoldable pub chains_walk : List Chain → Packet → Bool → Outcome
chains_walk [] p logged = outcome_so_far Left logged
chains_walk (c ∷ chains) p logged =
    go_on (rules_walk c.rules p logged) (λ marked. chains_walk chains p marked)

-- At the end the policy decides, and without one the packet is left to what stands behind.
abbrev pub policy_verdict : Option Bool → Verdict
policy_verdict None = Left
policy_verdict (Some true) = Accept
policy_verdict (Some false) = Deny

abbrev pub walk : Option Bool → List Chain → Packet → Outcome
walk accept chains p =
    go_on (chains_walk chains p false) (λ logged. outcome_so_far (policy_verdict accept) logged)

-- What a section does, where the packet is of its family.
abbrev pub section_outcome : Section → Packet → Option Outcome
section_outcome s p =
    if same_family s.family p.family then Some (walk s.accept s.chains p) else None

-- What the section at that place does; nothing where there is none.
abbrev pub outcome_of : List Section → ℕ → Packet → Option Outcome
outcome_of doc which p = outcome_at section_outcome doc which p
