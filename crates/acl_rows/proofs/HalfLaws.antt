-- Halves of lines that were put together beforehand.
use Rattle.std.proofs.Common.{◌≡◌, ℕ, ◌+◌, ◌<◌, List, [], ◌∷◌, ◌++◌, flat_map, length, map, set, take, ap, sym, ◌∙◌, append_assoc}
use Rattle.std.proofs.lemmas.Grind.{flat_map-append}
use Rattle.std.proofs.lemmas.List.{map-append, take_more_set}
use Rattle.std.proofs.lemmas.List.Folds.{flat_map-map}
use Rattle.acl_rows.specs.declared.line_texts.LineText.{LineText}
use Rattle.acl_rows.specs.LineHalfSteps.{AreHalves, text_of}

-- a text more is that of the half of the first item that was left
pub one_half_more : {A : Type 0} (half : A → List ℕ) (all left behind : List A) (item : A) (texts : List LineText) (i : ℕ) (text : LineText)
    → AreHalves half all (take i texts) left → left ≡ item ∷ behind → text_of text ≡ half item → i < length texts
    → AreHalves half all (take (i + 1) (set texts i text)) behind
one_half_more half all left behind item texts i text halves first is within =
    let before = map (λ t. text_of t) (take i texts) in
    halves ∙ ap (λ xs. before ++ map half xs) first ∙ ap (λ h. before ++ (h ∷ map half behind)) (sym is)
    ∙ sym (append_assoc before (text_of text ∷ []) (map half behind))
    ∙ ap (λ t. t ++ map half behind) (sym (map-append (λ t. text_of t) (take i texts) (text ∷ [])))
    ∙ ap (λ ts. map (λ t. text_of t) ts ++ map half behind) (sym (take_more_set texts i text within))

-- the lines of all items are those of the texts, and behind them those of the items that are left
pub lines_in_two : {A : Type 0} (front : List ℕ) (half : A → List ℕ) (all left : List A) (texts : List LineText) → AreHalves half all texts left
    → flat_map (λ t. front ++ text_of t) texts ++ flat_map (λ x. front ++ half x) left ≡ flat_map (λ x. front ++ half x) all
lines_in_two front half all left texts halves =
    let line : List ℕ → List ℕ = λ h. front ++ h in
    ap (λ t. t ++ flat_map (λ x. front ++ half x) left) (sym (flat_map-map line (λ t. text_of t) texts))
    ∙ ap (λ t. flat_map line (map (λ t. text_of t) texts) ++ t) (sym (flat_map-map line half left))
    ∙ sym (flat_map-append line (map (λ t. text_of t) texts) (map half left)) ∙ sym (ap (flat_map line) halves) ∙ flat_map-map line half all
