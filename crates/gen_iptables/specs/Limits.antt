-- Which filters are for iptables, and why one of them is not taken. The name of a chain is that of
-- its rule, so that no two rules have the same. The greatest length of a name is aclgen's own, as it
-- is the language's.
use Rattle.std.specs.Prelude.{Bool, List, Option}
use Rattle.acl_target.specs.declared.targets.Kind.TheVariants.{Iptables}
use Rattle.acl_platform.specs.declared.filters.Filter.{Filter}
use Rattle.acl_platform.specs.declared.filters.Limit.{Limit}
use Rattle.acl_platform.specs.declared.rules.Rule.{Rule}
use Rattle.acl_platform.specs.Limits.{filter_limit, is_for, name_limit}
use Rattle.gen_iptables.specs.Sections.{entry_count}

abbrev pub is_for_iptables : Filter → Bool
is_for_iptables f = is_for Iptables f

-- The limit of a rule behind earlier ones. A name, with the suffix that it may have, has at most 24
-- bytes, and no earlier rule has it.
abbrev pub rule_limit : List Rule → Rule → Option Limit
rule_limit earlier r = name_limit 24 earlier r

abbrev pub limit_of : Filter → Option Limit
limit_of f = filter_limit rule_limit (entry_count f) f
