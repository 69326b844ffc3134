-- How the lists of filters are numbered, by the filters' targets.
use Rattle.std.specs.Prelude.{◌≡◌, ◌≢◌, ℕ, ◌≤◌, Bool, true, List, map, flat_map, AllPairs}
use Rattle.std.specs.List.{AllByRecursion, IsDistinct}
use Rattle.std.specs.Str.{bytes_eq}
use Rattle.acl_platform.specs.declared.filters.Filter.{Filter}
use Rattle.acl_platform.specs.SoundFilters.{target_of}
use Rattle.std_lang.specs.Documents.{list_names}
use Rattle.gen_acltool.specs.Limits.{is_for_standard}
use Rattle.gen_acltool.specs.Sections.{section_of}

-- Where the targets of Cisco have different numbers, as those of a policy do, no two sections have the
-- list of one number.
abbrev pub ListsDiffer : Type 0
ListsDiffer = (first : ℕ) (filters : List Filter) (stateful : Bool)
    → AllByRecursion (λ f. (is_for_standard first f ≡ true) × (1 ≤ f.number)) filters
    → AllPairs (λ a b. a.kind ≡ b.kind → a.number ≢ b.number) (map (target_of stateful) filters)
    → IsDistinct bytes_eq (flat_map list_names (map (section_of first) filters))
