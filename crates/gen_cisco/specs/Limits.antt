-- Which filters are for Cisco IOS, and why one of them is not taken.
-- Sources: Cisco IOS IPv6 Command Reference, "permit (IPv6)" (no `match-all`); Cisco IOS Security
-- Command Reference, "access-list (IP extended)" (ports are those of TCP and UDP). The greatest
-- length of a name is aclgen's own.
use Rattle.std.specs.Prelude.{Bool, true, false, ◌&&◌, nat_lt, if◌then◌else◌, List, length, Option, None, Some}
use Rattle.acl_packet.specs.declared.addresses.Family.TheVariants.{V6}
use Rattle.acl_packet.specs.Addresses.{same_family}
use Rattle.acl_target.specs.declared.targets.Kind.TheVariants.{Cisco}
use Rattle.acl_platform.specs.declared.filters.Feature.TheVariants.{TcpInitial, SctpPorts}
use Rattle.acl_platform.specs.declared.filters.Filter.{Filter}
use Rattle.acl_platform.specs.declared.filters.Limit.{Limit}
use Rattle.acl_platform.specs.declared.filters.Limit.TheVariants.{NameLength, Unsupported}
use Rattle.acl_platform.specs.declared.rules.Rule.{Rule}
use Rattle.acl_platform.specs.declared.rules.Test.{Test}
use Rattle.acl_platform.specs.declared.rules.Test.TheVariants.{SynNotAck}
use Rattle.acl_platform.specs.Limits.{filter_limit, is_for, names_sctp_ports}
use Rattle.gen_cisco.specs.Sections.{entry_count}

abbrev pub is_for_cisco : Filter → Bool
is_for_cisco f = is_for Cisco f

abbrev pub asks_initial : Test → Bool
asks_initial SynNotAck = true
asks_initial test = false

-- In IPv6 the rule asks for the first packet of a connection.
abbrev pub asks_initial_in_ipv6 : Rule → Bool
asks_initial_in_ipv6 r = same_family r.family V6 && asks_initial r.test

-- The limit of a rule behind earlier ones. A name has at most 64 bytes, and an entry says neither the
-- first packets of connections in IPv6 nor ports of SCTP.
abbrev pub rule_limit : List Rule → Rule → Option Limit
rule_limit earlier r =
    if nat_lt 64 (length r.name) then Some (NameLength (length earlier))
    else if asks_initial_in_ipv6 r then Some (Unsupported (length earlier) TcpInitial)
    else if names_sctp_ports r then Some (Unsupported (length earlier) SctpPorts)
    else None

abbrev pub limit_of : Filter → Option Limit
limit_of f = filter_limit rule_limit (entry_count f) f
