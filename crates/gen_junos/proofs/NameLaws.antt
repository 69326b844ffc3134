-- A section's first line, and the names of the sections of targets that do not clash.
use Rattle.std.proofs.Common.{◌≡◌, ℕ, Bool, false, ◌&&◌, List, [], ◌∷◌, ◌++◌, flat_map, codes, refl, append-nil, append_assoc, ap, sym, ◌∙◌}
use Rattle.std.specs.Str.{bytes_eq}
use Rattle.std.proofs.lemmas.Bool.{false≢true}
use Rattle.acl_packet.specs.declared.addresses.Families.{Families}
use Rattle.acl_packet.specs.declared.addresses.Families.TheVariants.{Inet, Inet6, Mixed}
use Rattle.acl_packet.specs.Addresses.{first_family, same_family}
use Rattle.acl_text.specs.Output.{joined}
use Rattle.acl_rows.specs.Rows.{Row, row, row_text, text_of_rows}
use Rattle.acl_target.specs.declared.targets.Kind.{Kind}
use Rattle.acl_target.specs.declared.targets.Kind.TheVariants.{Juniper}
use Rattle.acl_target.specs.Clashes.{clash, is_mixed, same_families}
use Rattle.acl_target.specs.TargetTexts.{families_text, kind_text, target_text}
use Rattle.acl_platform.specs.declared.filters.Filter.{Filter}
use Rattle.acl_platform.specs.SoundFilters.{target_of}
use Rattle.acl_platform.proofs.OneName
use Rattle.junos_lang.specs.Documents.{family_word, name_of}
use Rattle.junos_lang.proofs.SectionNameLaws.{same_names}
use Rattle.junos_lang.specs.Texts.{end_rows, head_rows, section_rows, term_rows}
use Rattle.gen_junos.specs.SectionNames.{FirstLine, IsOfJunos, NamesDiffer}
use Rattle.gen_junos.specs.Sections.{section_of, terms_of}

-- ---- the first line

abbrev comment : List ℕ → List ℕ → Row
comment name family = row 0 (codes "/*" ∷ codes "juniper" ∷ name ∷ family ∷ codes "*/" ∷ [])

first-row : (name : List ℕ) (fs : Families) (rows : List Row) → is_mixed fs ≡ false
    → text_of_rows (comment name (family_word (first_family fs)) ∷ rows)
    ≡ (codes "/* " ++ joined (kind_text Juniper ∷ codes " " ∷ name ∷ codes " " ∷ families_text Juniper fs ∷ []) ++ codes " */") ++ 10 ∷ text_of_rows rows
unfolding row_text
first-row name Inet rows m =
    append_assoc (codes "/* juniper " ++ (name ++ codes " inet */")) (10 ∷ []) (text_of_rows rows)
    ∙ ap (λ t. (codes "/* juniper " ++ t) ++ 10 ∷ text_of_rows rows) (sym (append_assoc name (codes " inet") (codes " */")))
first-row name Inet6 rows m =
    append_assoc (codes "/* juniper " ++ (name ++ codes " inet6 */")) (10 ∷ []) (text_of_rows rows)
    ∙ ap (λ t. (codes "/* juniper " ++ t) ++ 10 ∷ text_of_rows rows) (sym (append_assoc name (codes " inet6") (codes " */")))
first-row name Mixed rows m = absurd (false≢true (sym m))

pub first-line : FirstLine
unfolding section_rows head_rows target_text
first-line f stateful h =
    let family = first_family f.families in
    let word = family_word family in
    let rows = row 0 (codes "firewall" ∷ codes "{" ∷ []) ∷ row 4 (codes "family" ∷ word ∷ codes "{" ∷ [])
    ∷ row 8 (codes "replace:" ∷ codes "filter" ∷ f.name ∷ codes "{" ∷ []) ∷ (flat_map (term_rows family) (terms_of f.rules) ++ end_rows) in
    let text : Kind → List ℕ = λ k.
    (codes "/* " ++ joined (kind_text k ∷ codes " " ∷ f.name ∷ codes " " ∷ families_text k f.families ∷ []) ++ codes " */") ++ 10 ∷ text_of_rows rows in
    (text_of_rows rows, ap text_of_rows (append-nil (comment f.name word ∷ rows)) ∙ first-row f.name f.families rows h.1 ∙ ap text (sym h.0))

-- ---- names

families-same : (fs gs : Families) → is_mixed fs ≡ false → is_mixed gs ≡ false
    → same_family (first_family fs) (first_family gs) ≡ same_families fs gs
families-same Inet Inet m n = refl
families-same Inet Inet6 m n = refl
families-same Inet Mixed m n = absurd (false≢true (sym n))
families-same Inet6 Inet m n = refl
families-same Inet6 Inet6 m n = refl
families-same Inet6 Mixed m n = absurd (false≢true (sym n))
families-same Mixed gs m n = absurd (false≢true (sym m))

not-same : (f g : Filter) (stateful : Bool) → IsOfJunos f → IsOfJunos g → clash (target_of stateful f) (target_of stateful g) ≡ false
    → bytes_eq (name_of (section_of f)) (name_of (section_of g)) ≡ false
not-same f g stateful h k e =
    sym (same_names (first_family f.families) (first_family g.families) f.name g.name)
    ∙ ap (λ b. b && bytes_eq f.name g.name) (families-same f.families g.families h.1 k.1)
    ∙ sym (OneName.clash-of Juniper f g stateful h.0 k.0) ∙ e

pub all-differ : NamesDiffer
all-differ fs stateful h d = OneName.all-differ IsOfJunos name_of section_of stateful (λ f g. not-same f g stateful) fs h d
