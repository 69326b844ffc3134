-- What the sections of filters begin with, and how they are named, by the filters' targets.
use Rattle.std.specs.Prelude.{◌≡◌, Bool, false, List, ◌∷◌, [], ◌++◌, map, flat_map, codes}
use Rattle.std.specs.List.{AllByRecursion, IsDistinct}
use Rattle.std.specs.Str.{bytes_eq}
use Rattle.acl_rows.specs.Rows.{Row, text_of_rows}
use Rattle.acl_target.specs.declared.targets.Kind.TheVariants.{Iptables}
use Rattle.acl_target.specs.Clashes.{clash, is_mixed}
use Rattle.acl_target.specs.TargetData.{IsTarget}
use Rattle.acl_target.specs.TargetTexts.{target_text}
use Rattle.acl_platform.specs.declared.filters.Filter.{Filter}
use Rattle.acl_platform.specs.SoundFilters.{target_of}
use Rattle.ipt_lang.specs.declared.documents.Section.{Section}
use Rattle.ipt_lang.specs.Documents.{hook_names}
use Rattle.ipt_lang.specs.Texts.{chain_rows, default_rows, text_of}
use Rattle.gen_iptables.specs.Sections.{section_of}

-- Behind the first line of a section stand the policy, where there is one, and the chains.
abbrev pub section_body : Section → List Row
section_body s = default_rows s.hook s.accept ++ flat_map (chain_rows s.hook s.family) s.chains

-- A section is a line of `## ` and its target's text, and behind it the lines of its body.
abbrev pub FirstLine : Type 0
FirstLine = (f : Filter) (stateful : Bool) → f.kind ≡ Iptables → IsTarget (target_of stateful f)
    → text_of (section_of f ∷ []) ≡ (codes "## " ++ target_text (target_of stateful f))
    ++ 10 ∷ text_of_rows (section_body (section_of f))

-- A filter for iptables has one family.
abbrev pub IsOfIptables : Filter → Type 0
IsOfIptables f = (f.kind ≡ Iptables) × (is_mixed f.families ≡ false)

-- Where no two targets clash, no two sections have the same hook and family.
abbrev pub SectionsDiffer : Type 0
SectionsDiffer = (filters : List Filter) (stateful : Bool) → AllByRecursion IsOfIptables filters
    → IsDistinct clash (map (target_of stateful) filters)
    → IsDistinct bytes_eq (flat_map hook_names (map section_of filters))
