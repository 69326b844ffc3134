-- What a filter does with a packet that no term decides.
use Rattle.std.specs.Prelude.{◌&&◌, if◌then◌else◌}
use Rattle.acl_packet.specs.declared.addresses.Family.TheVariants.{V6}
use Rattle.acl_packet.specs.declared.filtering.Outcome.{Outcome}
use Rattle.acl_packet.specs.declared.filtering.Verdict.{Verdict}
use Rattle.acl_packet.specs.declared.filtering.Verdict.TheVariants as verdicts
use Rattle.acl_packet.specs.Addresses.{same_family}
use Rattle.acl_packet.specs.Outcomes.{unlogged}
use Rattle.acl_packet.specs.Packets.{is_neighbour_discovery}
use Rattle.acl_packet.specs.declared.packets.Packet.{Packet}
use Rattle.acl_target.specs.declared.targets.Ending.{Ending}
use Rattle.acl_target.specs.declared.targets.Ending.TheVariants as endings

-- The end of a Cisco IPv6 list accepts neighbour discovery (Cisco IOS IPv6 command reference, ipv6 access-list).
abbrev pub ending_verdict : Ending → Packet → Verdict
ending_verdict endings.Accept p = verdicts.Accept
ending_verdict endings.Deny p = verdicts.Deny
ending_verdict endings.Left p = verdicts.Left
ending_verdict endings.Neighbours p =
    if same_family V6 p.family && is_neighbour_discovery p then verdicts.Accept else verdicts.Deny

-- Such a packet is not logged.
unfoldable pub ending_outcome : Ending → Packet → Outcome
ending_outcome ending p = unlogged (ending_verdict ending p)
