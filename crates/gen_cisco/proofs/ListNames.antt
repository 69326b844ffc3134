-- A section's first line, and the names of the lists of targets that do not clash.
use Rattle.std.proofs.Common.{◌≡◌, ℕ, Bool, false, List, [], ◌∷◌, ◌++◌, map, flat_map, codes, refl, append-nil, append_assoc, ap, sym, ◌∙◌}
use Rattle.std.specs.List.{AllByRecursion, IsDistinct}
use Rattle.std.specs.Set.{is_member}
use Rattle.std.specs.Str.{bytes_eq}
use Rattle.std.proofs.lemmas.Bool.{or_from, or_parts}
use Rattle.std.proofs.lemmas.List.Folds.{list_any-append}
use Rattle.acl_packet.specs.declared.addresses.Families.{Families}
use Rattle.acl_packet.specs.declared.addresses.Families.TheVariants.{Inet, Inet6, Mixed}
use Rattle.acl_text.specs.Output.{joined}
use Rattle.acl_text.specs.Names.{in_common}
use Rattle.acl_rows.specs.Rows.{Row, row_text, text_of_rows}
use Rattle.acl_rows.proofs.NamingLaws.{distinct-append}
use Rattle.acl_target.specs.declared.targets.Kind.{Kind}
use Rattle.acl_target.specs.declared.targets.Kind.TheVariants.{Cisco}
use Rattle.acl_target.specs.Clashes.{clash, is_mixed, list_names as target_lists, share_lists}
use Rattle.acl_target.specs.TargetTexts.{families_text, kind_text, target_text}
use Rattle.acl_platform.specs.declared.filters.Filter.{Filter}
use Rattle.acl_platform.specs.declared.rules.Rule.{Rule}
use Rattle.acl_platform.specs.SoundFilters.{target_of}
use Rattle.acl_platform.proofs.OneName.{clash-of}
use Rattle.cisco_lang.specs.Documents.{heads_of, list_names}
use Rattle.cisco_lang.specs.Texts.{list_rows, section_row, section_rows}
use Rattle.gen_cisco.proofs.SectionLaws.{lists-differ}
use Rattle.gen_cisco.specs.SectionNames.{FirstLine, ListsDiffer}
use Rattle.gen_cisco.specs.Sections.{list_of, section_of}

first-row : (name : List ℕ) (fs : Families) (rows : List Row)
    → text_of_rows (section_row name fs ∷ rows)
    ≡ (codes "! " ++ joined (kind_text Cisco ∷ codes " " ∷ name ∷ codes " " ∷ families_text Cisco fs ∷ [])) ++ 10 ∷ text_of_rows rows
unfolding row_text
first-row name Inet rows =
    append_assoc (codes "! " ++ joined (kind_text Cisco ∷ codes " " ∷ name ∷ codes " " ∷ families_text Cisco Inet ∷ [])) (10 ∷ []) (text_of_rows rows)
first-row name Inet6 rows =
    append_assoc (codes "! " ++ joined (kind_text Cisco ∷ codes " " ∷ name ∷ codes " " ∷ families_text Cisco Inet6 ∷ [])) (10 ∷ []) (text_of_rows rows)
first-row name Mixed rows =
    append_assoc (codes "! " ++ joined (kind_text Cisco ∷ codes " " ∷ name ∷ codes " " ∷ families_text Cisco Mixed ∷ [])) (10 ∷ []) (text_of_rows rows)

pub first-line : FirstLine
unfolding section_rows target_text
first-line f stateful kind =
    let rows = flat_map list_rows (section_of f).lists in
    let text : Kind → List ℕ = λ k.
    (codes "! " ++ joined (kind_text k ∷ codes " " ∷ f.name ∷ codes " " ∷ families_text k f.families ∷ [])) ++ 10 ∷ text_of_rows rows in
    ap text_of_rows (append-nil (section_row f.name f.families ∷ rows)) ∙ first-row f.name f.families rows ∙ ap text (sym kind)

-- ---- names

named-lists : (rules : List Rule) (fs : Families) (name : List ℕ)
    → map (λ l. l.name) (map (list_of rules) (heads_of fs name)) ≡ target_lists (is_mixed fs) name
named-lists rules Inet name = refl
named-lists rules Inet6 name = refl
named-lists rules Mixed name = refl

pub names-of : (f : Filter) → list_names (section_of f) ≡ target_lists (is_mixed f.families) f.name
names-of f = named-lists f.rules f.families f.name

none-of-none : (xs : List (List ℕ)) → in_common xs [] ≡ false
none-of-none [] = refl
none-of-none (x ∷ xs) = none-of-none xs

none-of-both : (xs ys zs : List (List ℕ)) → in_common xs ys ≡ false → in_common xs zs ≡ false → in_common xs (ys ++ zs) ≡ false
none-of-both [] ys zs h k = refl
none-of-both (x ∷ xs) ys zs h k =
    let p = or_parts (is_member bytes_eq ys x) (in_common xs ys) h in
    let q = or_parts (is_member bytes_eq zs x) (in_common xs zs) k in
    or_from (is_member bytes_eq (ys ++ zs) x) (in_common xs (ys ++ zs))
    (list_any-append (bytes_eq x) ys zs ∙ or_from (is_member bytes_eq ys x) (is_member bytes_eq zs x) p.0 q.0) (none-of-both xs ys zs p.1 q.1)

none-shared : (f g : Filter) (stateful : Bool) → f.kind ≡ Cisco → g.kind ≡ Cisco → clash (target_of stateful f) (target_of stateful g) ≡ false
    → in_common (list_names (section_of f)) (list_names (section_of g)) ≡ false
unfolding share_lists
none-shared f g stateful h k e =
    ap (λ xs. in_common xs (list_names (section_of g))) (names-of f)
    ∙ ap (in_common (target_lists (is_mixed f.families) f.name)) (names-of g)
    ∙ sym (clash-of Cisco f g stateful h k) ∙ e

none-later : (f : Filter) (stateful : Bool) (fs : List Filter) → f.kind ≡ Cisco → AllByRecursion (λ g. g.kind ≡ Cisco) fs
    → AllByRecursion (λ t. clash (target_of stateful f) t ≡ false) (map (target_of stateful) fs)
    → in_common (list_names (section_of f)) (flat_map list_names (map section_of fs)) ≡ false
none-later f stateful [] h k e = none-of-none (list_names (section_of f))
none-later f stateful (g ∷ fs) h k e =
    none-of-both (list_names (section_of f)) (list_names (section_of g)) (flat_map list_names (map section_of fs))
    (none-shared f g stateful h k.0 e.0) (none-later f stateful fs h k.1 e.1)

pub all-differ : ListsDiffer
unfolding IsDistinct
all-differ [] stateful h d = tt
all-differ (f ∷ fs) stateful h d =
    distinct-append (list_names (section_of f)) (flat_map list_names (map section_of fs)) (lists-differ f.rules f.families f.name)
    (all-differ fs stateful h.1 d.1) (none-later f stateful fs h.0 h.1 d.0)
