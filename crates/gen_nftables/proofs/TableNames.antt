-- A section's first line, and the names of the tables of targets that differ in number.
use Rattle.std.proofs.Common.{◌≡◌, ◌≢◌, ℕ, suc, ◌<◌, ◌≤◌, Bool, false, List, [], ◌∷◌, ◌++◌, length, get_or, map, flat_map, codes, AllPairs, refl, append-nil, ap, sym, subst, ◌∙◌, arith}
use Rattle.std.specs.Fmt.{decimal}
use Rattle.std.specs.List.{AllByRecursion, IsDistinct}
use Rattle.std.specs.Str.{bytes_eq}
use Rattle.std.proofs.lemmas.Bool.{false_from_ne_true}
use Rattle.std.proofs.lemmas.Fmt.{decimal_injective}
use Rattle.std.proofs.lemmas.List.{append_cancel_left}
use Rattle.std.proofs.lemmas.Slice.Eq.{bytes_eq-Decides}
use Rattle.acl_packet.specs.declared.addresses.Families.{Families}
use Rattle.acl_packet.specs.declared.addresses.Families.TheVariants.{Inet, Inet6, Mixed}
use Rattle.acl_packet.specs.declared.filtering.Hook.{Hook}
use Rattle.acl_packet.specs.declared.filtering.Hook.TheVariants.{Input, Output, Forward}
use Rattle.acl_text.specs.Output.{joined}
use Rattle.acl_rows.specs.Rows.{row_text, text_of_rows}
use Rattle.acl_target.specs.declared.targets.Kind.{Kind}
use Rattle.acl_target.specs.declared.targets.Kind.TheVariants.{Nftables}
use Rattle.acl_target.specs.declared.targets.Target.{Target}
use Rattle.acl_target.specs.TargetData.{FitsPlatform, hook_text}
use Rattle.acl_target.specs.TargetTexts.{families_text, kind_text, target_text}
use Rattle.acl_platform.specs.declared.filters.Filter.{Filter}
use Rattle.acl_platform.specs.SoundFilters.{target_of}
use Rattle.nft_lang.specs.Documents.{table_name, table_names}
use Rattle.nft_lang.specs.Texts.{head_rows, section_rows, target_row}
use Rattle.gen_nftables.specs.TableNames.{FirstLine, table_body, TablesDiffer}
use Rattle.gen_nftables.specs.Sections.{section_of}

abbrev mark : List ℕ → Families → List ℕ
mark name fs = codes "## " ++ joined (kind_text Nftables ∷ codes " " ∷ name ∷ codes " " ∷ families_text Nftables fs ∷ [])

first-row : (hook : Hook) (fs : Families) (text : List ℕ) → row_text (target_row hook fs) ++ text ≡ mark (hook_text hook) fs ++ 10 ∷ text
unfolding row_text
first-row Input Inet text = refl
first-row Input Inet6 text = refl
first-row Input Mixed text = refl
first-row Output Inet text = refl
first-row Output Inet6 text = refl
first-row Output Mixed text = refl
first-row Forward Inet text = refl
first-row Forward Inet6 text = refl
first-row Forward Mixed text = refl

pub first-line : FirstLine
unfolding section_rows head_rows target_text
first-line f stateful kind target =
    let s = section_of f in
    let body = text_of_rows (table_body s) in
    let P : Kind → Type 0 = λ k. FitsPlatform k (target_of stateful f) in
    let name : f.name ≡ hook_text f.hook = (subst P kind target.platform).name_is in
    let text : Kind → List ℕ = λ k.
    (codes "## " ++ joined (kind_text k ∷ codes " " ∷ f.name ∷ codes " " ∷ families_text k f.families ∷ [])) ++ 10 ∷ body in
    ap text_of_rows (append-nil (section_rows s)) ∙ first-row f.hook f.families body ∙ ap (λ n. mark n f.families ++ 10 ∷ body) (sym name)
    ∙ ap text (sym kind)

-- ---- names

pub names-apart : (m n : ℕ) → m ≤ 64 → n ≤ 64 → m ≢ n → bytes_eq (table_name m) (table_name n) ≡ false
names-apart m n h k differ = false_from_ne_true (bytes_eq (table_name m) (table_name n)) (λ e.
    differ (decimal_injective m n (omega (arith, h)) (omega (arith, k))
    (append_cancel_left (codes "aclgen_") (decimal m) (decimal n) ((bytes_eq-Decides (table_name m) (table_name n)).0 e))))

each-behind : {A : Type 0} (P : A → Type 0) (xs : List A) → ((k : ℕ) (d : A) → k < length xs → P (get_or xs k d)) → AllByRecursion P xs
each-behind P [] h = tt
each-behind P (x ∷ xs) h = (h 0 x (omega arith), each-behind P xs (λ k d l. h (suc k) d (omega (arith, l))))

later-pairs : {A : Type 0} (R : A → A → Type 0) (x : A) (xs : List A) → AllPairs R (x ∷ xs) → AllPairs R xs
later-pairs R x xs h = λ i j d below within. h (suc i) (suc j) d (omega (arith, below)) (omega (arith, within))

first-pairs : {A : Type 0} (R : A → A → Type 0) (x : A) (xs : List A) → AllPairs R (x ∷ xs) → AllByRecursion (R x) xs
first-pairs R x xs h = each-behind (R x) xs (λ k d l. h 0 (suc k) d (omega arith) (omega (arith, l)))

abbrev IsTabled : Filter → Type 0
IsTabled f = (f.kind ≡ Nftables) × (f.number ≤ 64)

abbrev Differ : Target → Target → Type 0
Differ a b = a.kind ≡ b.kind → a.number ≢ b.number

all-apart : (f : Filter) (stateful : Bool) (fs : List Filter) → IsTabled f → AllByRecursion IsTabled fs
    → AllByRecursion (Differ (target_of stateful f)) (map (target_of stateful) fs)
    → AllByRecursion (λ name. bytes_eq (table_name f.number) name ≡ false) (flat_map table_names (map section_of fs))
all-apart f stateful [] h k d = tt
all-apart f stateful (g ∷ fs) h k d =
    (names-apart f.number g.number h.1 k.0.1 (d.0 (h.0 ∙ sym k.0.0)), all-apart f stateful fs h k.1 d.1)

pub all-differ : TablesDiffer
unfolding IsDistinct
all-differ [] stateful h d = tt
all-differ (f ∷ fs) stateful h d =
    let t = target_of stateful f in
    let ts = map (target_of stateful) fs in
    (all-apart f stateful fs h.0 h.1 (first-pairs Differ t ts d), all-differ fs stateful h.1 (later-pairs Differ t ts d))
