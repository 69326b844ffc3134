-- Rules of a filter, and what the filter does to a packet, with nothing said of any device.
use Rattle.std.specs.Prelude.{Bool, true, ◌&&◌, if◌then◌else◌, List, [], ◌∷◌}
use Rattle.std.specs.List.{list_all}
use Rattle.acl_packet.specs.declared.packet_fields.Field.{Field}
use Rattle.acl_packet.specs.declared.packet_fields.Field.TheVariants.{Protocol, SourcePort, DestinationPort, IcmpType, IcmpCode}
use Rattle.acl_packet.specs.declared.packets.Packet.{Packet}
use Rattle.acl_packet.specs.declared.filtering.Outcome.{Outcome}
use Rattle.acl_packet.specs.Addresses.{same_family}
use Rattle.acl_packet.specs.Packets.{fields, has_ack_or_rst, has_flag, is_initial, is_tracked, number_of}
use Rattle.acl_packet.specs.AddressLists.{any_has}
use Rattle.acl_sets.specs.Ranges.{Numbers, holds}
use Rattle.acl_target.specs.declared.targets.Ending.{Ending}
use Rattle.acl_target.specs.FilterEndings.{ending_outcome}
use Rattle.acl_platform.specs.declared.filters.Filter.{Filter}
use Rattle.acl_platform.specs.declared.rules.Rule.{Rule}
use Rattle.acl_platform.specs.declared.rules.Test.{Test}
use Rattle.acl_platform.specs.declared.rules.Test.TheVariants.{Plain, AckOrRst, SynNotAck, Rst, State}

-- What a rule asks of the flags of TCP, of which RST is 4 (RFC 9293 section 3.1), or of the
-- connection.
abbrev pub passes : Test → Packet → Bool
passes Plain p = true
passes AckOrRst p = has_ack_or_rst p
passes SynNotAck p = is_initial p
passes Rst p = has_flag p.flags 4
passes State p = is_tracked p.conn

-- The rule's set of a field.
abbrev pub set_of : Field → Rule → Numbers
set_of Protocol r = r.protos
set_of SourcePort r = r.sports
set_of DestinationPort r = r.dports
set_of IcmpType r = r.itypes
set_of IcmpCode r = r.icodes

-- The rule's addresses are those of the packet, and its set of each field holds the packet's number there.
abbrev pub sets_hold : Rule → Packet → Bool
sets_hold r p = any_has r.src p.src && (any_has r.dst p.dst
    && list_all (λ field. holds (set_of field r).ranges (number_of field p)) fields)

-- A rule holds a packet of its family where its sets and its test do.
abbrev pub rule_holds : Rule → Packet → Bool
rule_holds r p = same_family r.family p.family && (sets_hold r p && passes r.test p)

abbrev pub decided_by : Rule → Outcome
decided_by r = record { verdict = r.verdict; logged = r.log }

-- The first rule that holds the packet decides, else the ending, which is not logged.
unfoldable pub rules_outcome : Ending → List Rule → Packet → Outcome
rules_outcome ending [] p = ending_outcome ending p
rules_outcome ending (r ∷ rules) p =
    if rule_holds r p then decided_by r else rules_outcome ending rules p

abbrev pub filter_outcome : Filter → Packet → Outcome
filter_outcome f p = rules_outcome f.ending f.rules p
