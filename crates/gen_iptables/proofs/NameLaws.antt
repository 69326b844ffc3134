-- A section's first line, and the names of the sections of targets that do not clash.
use Rattle.std.proofs.Common.{◌≡◌, ℕ, Bool, false, ◌&&◌, List, [], ◌∷◌, ◌++◌, codes, refl, append-nil, ap, sym, subst, ◌∙◌}
use Rattle.std.specs.Str.{bytes_eq}
use Rattle.std.proofs.lemmas.Bool.{false≢true}
use Rattle.acl_packet.specs.declared.addresses.Families.{Families}
use Rattle.acl_packet.specs.declared.addresses.Families.TheVariants.{Inet, Inet6, Mixed}
use Rattle.acl_packet.specs.declared.filtering.Hook.{Hook}
use Rattle.acl_packet.specs.declared.filtering.Hook.TheVariants.{Input, Output, Forward}
use Rattle.acl_text.specs.Output.{joined}
use Rattle.acl_rows.specs.Rows.{Row, row_text, text_of_rows}
use Rattle.acl_target.specs.declared.targets.Kind.{Kind}
use Rattle.acl_target.specs.declared.targets.Kind.TheVariants.{Iptables}
use Rattle.acl_target.specs.Clashes.{clash, is_mixed, same_families, same_hook}
use Rattle.acl_target.specs.TargetData.{chain_text, FitsPlatform, IsChain, IsTarget}
use Rattle.acl_target.specs.TargetTexts.{families_text, kind_text, target_text}
use Rattle.acl_platform.specs.declared.filters.Filter.{Filter}
use Rattle.acl_platform.specs.SoundFilters.{target_of}
use Rattle.acl_platform.proofs.OneName
use Rattle.ipt_lang.specs.Documents.{family_word, hook_word, name_of}
use Rattle.ipt_lang.specs.Texts.{head_rows, section_rows, target_row}
use Rattle.gen_iptables.specs.SectionNames.{FirstLine, IsOfIptables, section_body, SectionsDiffer}
use Rattle.acl_packet.specs.Addresses.{first_family}
use Rattle.gen_iptables.specs.Sections.{section_of}

-- ---- the first line

abbrev text_for : Kind → List ℕ → Families → List ℕ
text_for kind name fs = joined (kind_text kind ∷ codes " " ∷ name ∷ codes " " ∷ families_text kind fs ∷ [])

first-row : (hook : Hook) (fs : Families) (rows : List Row) → is_mixed fs ≡ false
    → text_of_rows (target_row hook (first_family fs) ∷ rows)
    ≡ (codes "## " ++ text_for Iptables (chain_text hook) fs) ++ 10 ∷ text_of_rows rows
unfolding row_text
first-row Input Inet rows m = refl
first-row Input Inet6 rows m = refl
first-row Output Inet rows m = refl
first-row Output Inet6 rows m = refl
first-row Forward Inet rows m = refl
first-row Forward Inet6 rows m = refl
first-row hook Mixed rows m = absurd (false≢true (sym m))

-- whatever rows stand behind it
pub first-of : (f : Filter) (stateful : Bool) → f.kind ≡ Iptables → IsTarget (target_of stateful f) → (rows : List Row)
    → text_of_rows (target_row f.hook (first_family f.families) ∷ rows)
    ≡ (codes "## " ++ target_text (target_of stateful f)) ++ 10 ∷ text_of_rows rows
unfolding target_text
first-of f stateful kind h rows =
    let P : Kind → Type 0 = λ k. FitsPlatform k (target_of stateful f) in
    let target : IsChain (target_of stateful f) = subst P kind h.platform in
    let text : Kind → List ℕ → List ℕ = λ k name. (codes "## " ++ text_for k name f.families) ++ 10 ∷ text_of_rows rows in
    first-row f.hook f.families rows target.one_family ∙ ap (text Iptables) (sym target.name_is) ∙ ap (λ k. text k f.name) (sym kind)

pub first-line : FirstLine
unfolding section_rows head_rows
first-line f stateful kind h =
    let rows = section_body (section_of f) in
    ap text_of_rows (append-nil (target_row f.hook (first_family f.families) ∷ rows)) ∙ first-of f stateful kind h rows

-- ---- names

abbrev name_for : Hook → Families → List ℕ
name_for hook fs = hook_word hook ++ 32 ∷ family_word (first_family fs)

names-same : (i j : Hook) (fs gs : Families) → is_mixed fs ≡ false → is_mixed gs ≡ false
    → bytes_eq (name_for i fs) (name_for j gs) ≡ same_hook i j && same_families fs gs
names-same Input Input Inet Inet m n = refl
names-same Input Input Inet Inet6 m n = refl
names-same Input Input Inet6 Inet m n = refl
names-same Input Input Inet6 Inet6 m n = refl
names-same Input Output Inet gs m n = refl
names-same Input Output Inet6 gs m n = refl
names-same Input Forward Inet gs m n = refl
names-same Input Forward Inet6 gs m n = refl
names-same Output Output Inet Inet m n = refl
names-same Output Output Inet Inet6 m n = refl
names-same Output Output Inet6 Inet m n = refl
names-same Output Output Inet6 Inet6 m n = refl
names-same Output Input Inet gs m n = refl
names-same Output Input Inet6 gs m n = refl
names-same Output Forward Inet gs m n = refl
names-same Output Forward Inet6 gs m n = refl
names-same Forward Forward Inet Inet m n = refl
names-same Forward Forward Inet Inet6 m n = refl
names-same Forward Forward Inet6 Inet m n = refl
names-same Forward Forward Inet6 Inet6 m n = refl
names-same Forward Input Inet gs m n = refl
names-same Forward Input Inet6 gs m n = refl
names-same Forward Output Inet gs m n = refl
names-same Forward Output Inet6 gs m n = refl
names-same i j Inet Mixed m n = absurd (false≢true (sym n))
names-same i j Inet6 Mixed m n = absurd (false≢true (sym n))
names-same i j Mixed gs m n = absurd (false≢true (sym m))

not-same : (f g : Filter) (stateful : Bool) → IsOfIptables f → IsOfIptables g → clash (target_of stateful f) (target_of stateful g) ≡ false
    → bytes_eq (name_of (section_of f)) (name_of (section_of g)) ≡ false
not-same f g stateful h k e =
    names-same f.hook g.hook f.families g.families h.1 k.1
    ∙ sym (OneName.clash-of Iptables f g stateful h.0 k.0) ∙ e

pub all-differ : SectionsDiffer
all-differ fs stateful h d = OneName.all-differ IsOfIptables name_of section_of stateful (λ f g. not-same f g stateful) fs h d
