-- How short the filters are that a platform takes.
use Rattle.std.specs.Prelude.{◌≡◌, ◌≤◌, None}
use Rattle.std.specs.List.{AllByRecursion}
use Rattle.acl_sets.specs.LeastLists.{IsFewest}
use Rattle.acl_packet.specs.AddressLists.{any_has}
use Rattle.acl_platform.specs.declared.filters.Filter.{Filter}
use Rattle.acl_platform.specs.SoundFilters.{IsSound}
use Rattle.acl_filters.specs.PlatformFiles.{count_of, limit_of}

-- Of each rule, no shorter list of prefixes has the addresses of its sources, and none has those of
-- its destinations.
abbrev pub HasFewestPrefixes : Filter → Type 0
HasFewestPrefixes f = AllByRecursion (λ r. IsFewest r.family (any_has r.src) r.src
    × IsFewest r.family (any_has r.dst) r.dst) f.rules

-- A sound filter that meets no limit has lists of prefixes that are as short as can be, and at most
-- 100,000 entries.
abbrev pub TakenFiltersAreShort : Type 0
TakenFiltersAreShort = (f : Filter) → IsSound f → limit_of f ≡ None
    → HasFewestPrefixes f × (count_of f ≤ 100000)
