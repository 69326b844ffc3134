-- What the sections of filters begin with, and how their lists are named, by the filters' targets.
use Rattle.std.specs.Prelude.{◌≡◌, Bool, List, [], ◌∷◌, ◌++◌, map, flat_map, codes}
use Rattle.std.specs.List.{AllByRecursion, IsDistinct}
use Rattle.std.specs.Str.{bytes_eq}
use Rattle.acl_rows.specs.Rows.{text_of_rows}
use Rattle.acl_target.specs.declared.targets.Kind.TheVariants.{Cisco}
use Rattle.acl_target.specs.Clashes.{clash}
use Rattle.acl_target.specs.TargetTexts.{target_text}
use Rattle.acl_platform.specs.declared.filters.Filter.{Filter}
use Rattle.acl_platform.specs.SoundFilters.{target_of}
use Rattle.cisco_lang.specs.Documents.{list_names}
use Rattle.cisco_lang.specs.Texts.{list_rows, text_of}
use Rattle.gen_cisco.specs.Sections.{section_of}

-- A section is a line of `! ` and its target's text, and behind it the lines of its lists.
abbrev pub FirstLine : Type 0
FirstLine = (f : Filter) (stateful : Bool) → f.kind ≡ Cisco
    → text_of (section_of f ∷ []) ≡ (codes "! " ++ target_text (target_of stateful f))
    ++ 10 ∷ text_of_rows (flat_map list_rows (section_of f).lists)

-- Where no two targets clash, no two lists of all sections have the same name.
abbrev pub ListsDiffer : Type 0
ListsDiffer = (filters : List Filter) (stateful : Bool)
    → AllByRecursion (λ f. f.kind ≡ Cisco) filters
    → IsDistinct clash (map (target_of stateful) filters)
    → IsDistinct bytes_eq (flat_map list_names (map section_of filters))
