-- The rows of a section as they are put.
use Rattle.std.proofs.Common.{◌≡◌, ◌≢◌, ℕ, suc, false, ◌==◌, List, [], ◌∷◌, ◌++◌, length, map, flat_map, codes, refl, append-nil, ap, sym, ◌∙◌}
use Rattle.std.specs.Fmt.{decimal}
use Rattle.std.specs.List.{All}
use Rattle.std.proofs.Math.Nat.{suc-ne-zero}
use Rattle.std.proofs.lemmas.Bool.{eqb-true, false_from_ne_true, false≢true}
use Rattle.std.proofs.lemmas.List.Elements.{All-head}
use Rattle.acl_packet.specs.declared.addresses.Family.{Family}
use Rattle.acl_packet.specs.declared.filtering.Verdict.TheVariants.{Deny}
use Rattle.acl_rows.specs.Rows.{Row, spaced, text_of_rows}
use Rattle.acl_sets.specs.declared.sets.Range.{Range}
use Rattle.acl_sets.specs.Ranges.{IsRange}
use Rattle.acl_platform.specs.declared.filters.Filter.{Filter}
use Rattle.acl_platform.specs.declared.rules.Rule.{Rule}
use Rattle.acl_platform.specs.Choices.{numbers_of}
use Rattle.acl_platform.specs.Elements.{address_elements, number_elements, port_elements, range_elements}
use Rattle.acl_platform.specs.Remarks.{notes}
use Rattle.acl_platform.proofs.ChoiceLaws.{first-number}
use Rattle.acl_platform.proofs.ElementLaws.{each-range}
use Rattle.acl_rows.specs.RuleParts.{is_empty}
use Rattle.junos_lang.specs.Documents.{family_word}
use Rattle.junos_lang.specs.Texts.{address_rows, closing, condition_rows, end_rows, from_rows, head_rows, list_rows, note_row, note_rows, range_word, section_rows, term_row, term_rows, test_rows, text_of, then_rows}
use Rattle.junos_lang.specs.ConditionSteps.{value_rows}
use Rattle.junos_lang.proofs.ConditionLaws.{conditions_are}
use Rattle.acl_packet.specs.Addresses.{first_family}
use Rattle.gen_junos.specs.Sections.{default_term, note_of, section_of, term_of, terms_of, test_of}

-- ---- terms

pub default-rows : (family : Family) → term_row (codes "default-deny") ∷ [] ++ (then_rows false Deny ++ closing 12 ∷ []) ≡ term_rows family default_term
unfolding term_rows from_rows condition_rows address_rows list_rows test_rows
default-rows family = refl

over-map : (family : Family) (rules : List Rule) → flat_map (λ r. term_rows family (term_of r)) rules ≡ flat_map (term_rows family) (map term_of rules)
over-map family [] = refl
over-map family (r ∷ rules) = ap (λ rows. term_rows family (term_of r) ++ rows) (over-map family rules)

pub some-terms : (family : Family) (rules : List Rule) → (length rules == 0) ≡ false
    → flat_map (λ r. term_rows family (term_of r)) rules ≡ flat_map (term_rows family) (terms_of rules)
some-terms family [] h = absurd (false≢true (sym h))
some-terms family (r ∷ rules) h = over-map family (r ∷ rules)

note-text : (note : List ℕ) → flat_map (λ text. note_row text ∷ []) (notes note) ≡ note_rows (note_of note)
note-text [] = refl
note-text (b ∷ bs) = refl

pub term-text : (family : Family) (r : Rule) {note name : List ℕ} → note ≡ r.note → name ≡ r.name
    → text_of_rows (flat_map (λ text. note_row text ∷ []) (notes note) ++ (term_row name ∷ [] ++ (from_rows (condition_rows family (term_of r))
    ++ (then_rows r.log r.verdict ++ closing 12 ∷ [])))) ≡ text_of_rows (term_rows family (term_of r))
unfolding term_rows
term-text family r {note = note} {name = name} e h =
    let text : List Row → List ℕ → List ℕ = λ rows n. text_of_rows (rows
    ++ (term_row n ∷ [] ++ (from_rows (condition_rows family (term_of r)) ++ (then_rows r.log r.verdict ++ closing 12 ∷ [])))) in
    ap (λ n. text (flat_map (λ t. note_row t ∷ []) (notes n)) name) e ∙ ap (text (flat_map (λ t. note_row t ∷ []) (notes r.note))) h
    ∙ ap (λ rows. text rows r.name) (note-text r.note)

pub section-text : (f : Filter)
    → text_of_rows (head_rows (family_word (first_family f.families)) f.name ++ (flat_map (term_rows (first_family f.families)) (terms_of f.rules) ++ end_rows))
    ≡ text_of (section_of f ∷ [])
unfolding section_rows
section-text f =
    let s = section_of f in
    ap text_of_rows (sym (append-nil (head_rows (family_word s.family) s.name ++ (flat_map (term_rows s.family) s.terms ++ end_rows))))

-- ---- values, word by word

pub all-words : (ns : List ℕ) → flat_map (λ n. spaced (decimal n ∷ [])) ns ≡ spaced (map decimal ns)
all-words [] = refl
all-words (n ∷ ns) =
    ap (λ t. t ++ flat_map (λ m. spaced (decimal m ∷ [])) ns) (append-nil (32 ∷ decimal n)) ∙ ap (λ t. (32 ∷ decimal n) ++ t) (all-words ns)

no-word : {A : Type 0} (f : ℕ → A) (ns : List ℕ) → ns ≢ [] → is_empty (map f ns) ≡ false
no-word f [] h = absurd (h refl)
no-word f (n ∷ ns) h = refl

-- there is a number where there is a range
pub no-numbers : (rs : List Range) → All (λ r. IsRange 255 r) rs → (length rs == 0) ≡ is_empty (map decimal (numbers_of rs))
no-numbers [] h = refl
no-numbers (r ∷ rs) h =
    let ends = (All-head (λ (q : Range). IsRange 255 q) r rs h).0 in
    not-zero (length rs) ∙ sym (no-word decimal (numbers_of (r ∷ rs)) (first-number r rs ends))
  where
    not-zero : (n : ℕ) → (suc n == 0) ≡ false
    not-zero n = false_from_ne_true (suc n == 0) (λ e. absurd (suc-ne-zero n (eqb-true (suc n) 0 e)))

-- ---- all conditions

pub conditions-text : (family : Family) (r : Rule)
    → value_rows family (address_elements r.src) (address_elements r.dst) (map decimal (number_elements r.protos))
    (map (λ p. range_word (p.low, p.high)) (range_elements r.sports)) (map (λ p. range_word (p.low, p.high)) (range_elements r.dports))
    (map decimal (number_elements r.itypes)) (map decimal (number_elements r.icodes)) (test_of r.test)
    ≡ condition_rows family (term_of r)
conditions-text family r =
    let rows : List (List ℕ) → List (List ℕ) → List Row = λ sports dports.
    value_rows family (address_elements r.src) (address_elements r.dst) (map decimal (number_elements r.protos)) sports dports
    (map decimal (number_elements r.itypes)) (map decimal (number_elements r.icodes)) (test_of r.test) in
    let into = map (λ p. range_word (p.low, p.high)) (range_elements r.dports) in
    ap (λ sports. rows sports into) (each-range range_word (range_elements r.sports))
    ∙ ap (rows (map range_word (port_elements r.sports))) (each-range range_word (range_elements r.dports)) ∙ conditions_are family (term_of r)
