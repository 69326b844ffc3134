-- Which filters become standard lists of Cisco IOS, and why one of them is not taken.
-- Source: Cisco IOS Security Command Reference, "access-list (IP standard)": a list is of IPv4, its number
-- is 1 to 99, and an entry says a source alone. The greatest length of a name is aclgen's own.
use Rattle.std.specs.Prelude.{ℕ, ◌==◌, Bool, true, false, not, ◌&&◌, nat_le, nat_lt, if◌then◌else◌, List, length, Option, None, Some}
use Rattle.std.specs.List.{list_all, list_any}
use Rattle.acl_packet.specs.declared.addresses.Families.{Families}
use Rattle.acl_packet.specs.declared.addresses.Families.TheVariants.{Inet}
use Rattle.acl_packet.specs.declared.addresses.Prefix.{Prefix}
use Rattle.acl_packet.specs.Packets.{fields}
use Rattle.acl_sets.specs.ComputableSets.{is_all}
use Rattle.acl_target.specs.declared.targets.Kind.TheVariants.{Cisco}
use Rattle.acl_platform.specs.declared.filters.Feature.TheVariants.{MoreThanSources}
use Rattle.acl_platform.specs.declared.filters.Filter.{Filter}
use Rattle.acl_platform.specs.declared.filters.Limit.{Limit}
use Rattle.acl_platform.specs.declared.filters.Limit.TheVariants.{NameLength, Unsupported}
use Rattle.acl_platform.specs.declared.rules.Rule.{Rule}
use Rattle.acl_platform.specs.declared.rules.Test.{Test}
use Rattle.acl_platform.specs.declared.rules.Test.TheVariants.{Plain}
use Rattle.acl_platform.specs.Limits.{filter_limit, is_for}
use Rattle.acl_platform.specs.Rules.{set_of}
use Rattle.gen_acltool.specs.Sections.{entry_count, list_number}

abbrev pub is_inet : Families → Bool
is_inet Inet = true
is_inet families = false

-- The numbers from the first on reach the filter's.
abbrev pub has_number : ℕ → Filter → Bool
has_number first f = nat_le 1 first && nat_le (list_number first f) 99

abbrev pub is_for_standard : ℕ → Filter → Bool
is_for_standard first f = is_for Cisco f && (is_inet f.families && has_number first f)

-- A prefix of length 0 is all addresses.
abbrev pub has_all_addresses : List Prefix → Bool
has_all_addresses prefixes = list_any (λ p. p.len == 0) prefixes

abbrev pub is_plain : Test → Bool
is_plain Plain = true
is_plain test = false

-- The rule asks for sources alone: its destination and its set of each field are all, and it has no
-- test.
abbrev pub says_sources : Rule → Bool
says_sources r = has_all_addresses r.dst
    && (list_all (λ field. is_all (set_of field r)) fields && is_plain r.test)

-- The limit of a rule behind earlier ones. A name has at most 64 bytes.
abbrev pub rule_limit : List Rule → Rule → Option Limit
rule_limit earlier r =
    if nat_lt 64 (length r.name) then Some (NameLength (length earlier))
    else if not (says_sources r) then Some (Unsupported (length earlier) MoreThanSources)
    else None

abbrev pub limit_of : Filter → Option Limit
limit_of f = filter_limit rule_limit (entry_count f) f
