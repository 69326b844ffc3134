-- What the sections of filters begin with, and how they are named, by the filters' targets.
use Rattle.std.specs.Prelude.{◌≡◌, Bool, false, List, [], ◌∷◌, ◌++◌, ℕ, map, flat_map, codes}
use Rattle.std.specs.List.{AllByRecursion, IsDistinct}
use Rattle.std.specs.Str.{bytes_eq}
use Rattle.acl_target.specs.declared.targets.Kind.TheVariants.{Juniper}
use Rattle.acl_target.specs.Clashes.{clash, is_mixed}
use Rattle.acl_target.specs.TargetTexts.{target_text}
use Rattle.acl_platform.specs.declared.filters.Filter.{Filter}
use Rattle.acl_platform.specs.SoundFilters.{target_of}
use Rattle.junos_lang.specs.Documents.{filter_names}
use Rattle.junos_lang.specs.Texts.{text_of}
use Rattle.gen_junos.specs.Sections.{section_of}

-- A filter for Junos has one family.
abbrev pub IsOfJunos : Filter → Type 0
IsOfJunos f = (f.kind ≡ Juniper) × (is_mixed f.families ≡ false)

-- A section begins with a line of `/* `, its target's text, and ` */`.
abbrev pub FirstLine : Type 0
FirstLine = (f : Filter) (stateful : Bool) → IsOfJunos f
    → (more : List ℕ) × (text_of (section_of f ∷ [])
    ≡ (codes "/* " ++ target_text (target_of stateful f) ++ codes " */") ++ 10 ∷ more)

-- Where no two targets clash, no two sections have the same name.
abbrev pub NamesDiffer : Type 0
NamesDiffer = (filters : List Filter) (stateful : Bool) → AllByRecursion IsOfJunos filters
    → IsDistinct clash (map (target_of stateful) filters)
    → IsDistinct bytes_eq (flat_map filter_names (map section_of filters))
