-- Why a platform does not take a filter: its rules are judged one after the other, and the number of
-- entries after all of them. The greatest number of entries is aclgen's own.
use Rattle.std.specs.Prelude.{ℕ, Bool, not, ◌&&◌, nat_lt, if◌then◌else◌, List, [], ◌∷◌, ◌++◌, length, Option, None, Some}
use Rattle.std.specs.List.{list_any}
use Rattle.std.specs.Option.{option_or}
use Rattle.std.specs.Str.{bytes_eq}
use Rattle.acl_sets.specs.ComputableSets.{is_all}
use Rattle.acl_sets.specs.Ranges.{holds}
use Rattle.acl_target.specs.declared.targets.Kind.{Kind}
use Rattle.acl_target.specs.Clashes.{same_kind}
use Rattle.acl_platform.specs.declared.filters.Filter.{Filter}
use Rattle.acl_platform.specs.declared.filters.Limit.{Limit}
use Rattle.acl_platform.specs.declared.filters.Limit.TheVariants.{NameClash, NameLength, TooManyEntries}
use Rattle.acl_platform.specs.declared.rules.Rule.{Rule}

abbrev pub is_for : Kind → Filter → Bool
is_for kind f = same_kind f.kind kind

-- One of the earlier rules has the rule's name.
abbrev pub is_name_taken : List Rule → Rule → Bool
is_name_taken earlier r = list_any (λ e. bytes_eq e.name r.name) earlier

-- The rule's name is longer than the longest one, or an earlier rule has it.
abbrev pub name_limit : ℕ → List Rule → Rule → Option Limit
name_limit longest earlier r =
    if nat_lt longest (length r.name) then Some (NameLength (length earlier))
    else if is_name_taken earlier r then Some (NameClash (length earlier))
    else None

-- The rule holds SCTP, 132 (IANA, Protocol Numbers), and not all of its ports.
abbrev pub names_sctp_ports : Rule → Bool
names_sctp_ports r = holds r.protos.ranges 132 && not (is_all r.sports && is_all r.dports)

-- A platform judges a rule behind the earlier rules of its filter. This is the limit of the first
-- rule that has one.
abbrev pub first_limit : (List Rule → Rule → Option Limit) → List Rule → List Rule → Option Limit
first_limit rule_limit earlier [] = None
first_limit rule_limit earlier (r ∷ rules) =
    option_or (rule_limit earlier r) (first_limit rule_limit (earlier ++ r ∷ []) rules)

-- At most 100,000 entries.
abbrev pub count_limit : ℕ → Option Limit
count_limit count = if nat_lt 100000 count then Some TooManyEntries else None

-- The limit of a filter, from that of its rules and from the number of its entries.
abbrev pub filter_limit : (List Rule → Rule → Option Limit) → ℕ → Filter → Option Limit
filter_limit rule_limit count f = option_or (first_limit rule_limit [] f.rules) (count_limit count)
