-- What the sections of filters begin with, by the filters' targets.
use Rattle.std.specs.Prelude.{◌≡◌, Bool, List, ◌∷◌, [], ◌++◌, flat_map, codes}
use Rattle.acl_rows.specs.Rows.{Row, text_of_rows}
use Rattle.acl_target.specs.declared.targets.Kind.TheVariants.{Iptables}
use Rattle.acl_target.specs.TargetData.{IsTarget}
use Rattle.acl_target.specs.TargetTexts.{target_text}
use Rattle.acl_platform.specs.declared.filters.Filter.{Filter}
use Rattle.acl_platform.specs.SoundFilters.{target_of}
use Rattle.ipt_lang.specs.declared.documents.Section.{Section}
use Rattle.ipr_lang.specs.Texts.{chain_rows, commit_row, declared_rows, policy_rows, table_row, text_of}
use Rattle.gen_iptables.specs.Sections.{section_of}

-- Behind the first line of a section stand the table, the declarations, the chains with their rules,
-- and the table's end.
abbrev pub section_body : Section → List Row
section_body s = table_row ∷ (policy_rows s.hook s.accept
    ++ (flat_map (λ c. declared_rows s.hook c.name) s.chains
    ++ (flat_map (chain_rows s.hook s.family) s.chains ++ commit_row ∷ [])))

-- A section is a line of `## ` and its target's text, and behind it the lines of its body.
abbrev pub FirstLine : Type 0
FirstLine = (f : Filter) (stateful : Bool) → f.kind ≡ Iptables → IsTarget (target_of stateful f)
    → text_of (section_of f ∷ []) ≡ (codes "## " ++ target_text (target_of stateful f))
    ++ 10 ∷ text_of_rows (section_body (section_of f))
