-- Which filters are for nftables, and why one of them is not taken. The greatest length of a name is
-- aclgen's own: no name of its own policy language is longer.
use Rattle.std.specs.Prelude.{Bool, nat_lt, if◌then◌else◌, List, length, Option, None, Some}
use Rattle.acl_target.specs.declared.targets.Kind.TheVariants.{Nftables}
use Rattle.acl_platform.specs.declared.filters.Filter.{Filter}
use Rattle.acl_platform.specs.declared.filters.Limit.{Limit}
use Rattle.acl_platform.specs.declared.filters.Limit.TheVariants.{NameLength}
use Rattle.acl_platform.specs.declared.rules.Rule.{Rule}
use Rattle.acl_platform.specs.Limits.{filter_limit, is_for}
use Rattle.gen_nftables.specs.Sections.{entry_count}

abbrev pub is_for_nftables : Filter → Bool
is_for_nftables f = is_for Nftables f

-- The limit of a rule behind earlier ones. A name, with the suffixes that it may have, has at most 128
-- bytes; what else a rule may hold, a rule of a chain can say.
abbrev pub rule_limit : List Rule → Rule → Option Limit
rule_limit earlier r =
    if nat_lt 128 (length r.name) then Some (NameLength (length earlier)) else None

abbrev pub limit_of : Filter → Option Limit
limit_of f = filter_limit rule_limit (entry_count f) f
