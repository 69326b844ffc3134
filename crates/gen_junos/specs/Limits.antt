-- Which filters are for Junos, and why one of them is not taken.
-- Source: Juniper, Routing Policies, Firewall Filters, and Traffic Policers User Guide, "Firewall
-- Filter Match Conditions for IPv4 Traffic" (ports are those of TCP and UDP; a term's name is that of
-- one term of its filter). The greatest length of a name is aclgen's own.
use Rattle.std.specs.Prelude.{Bool, nat_lt, if◌then◌else◌, List, length, Option, None, Some}
use Rattle.acl_target.specs.declared.targets.Kind.TheVariants.{Juniper}
use Rattle.acl_platform.specs.declared.filters.Feature.TheVariants.{SctpPorts}
use Rattle.acl_platform.specs.declared.filters.Filter.{Filter}
use Rattle.acl_platform.specs.declared.filters.Limit.{Limit}
use Rattle.acl_platform.specs.declared.filters.Limit.TheVariants.{NameLength, NameClash, Unsupported}
use Rattle.acl_platform.specs.declared.rules.Rule.{Rule}
use Rattle.acl_platform.specs.Limits.{filter_limit, is_for, is_name_taken, names_sctp_ports}
use Rattle.gen_junos.specs.Sections.{entry_count}

abbrev pub is_for_junos : Filter → Bool
is_for_junos f = is_for Juniper f

-- The limit of a rule behind earlier ones. A name has at most 64 bytes, no earlier rule has it, and a
-- term cannot say ports of SCTP.
abbrev pub rule_limit : List Rule → Rule → Option Limit
rule_limit earlier r =
    if nat_lt 64 (length r.name) then Some (NameLength (length earlier))
    else if is_name_taken earlier r then Some (NameClash (length earlier))
    else if names_sctp_ports r then Some (Unsupported (length earlier) SctpPorts)
    else None

abbrev pub limit_of : Filter → Option Limit
limit_of f = filter_limit rule_limit (entry_count f) f
