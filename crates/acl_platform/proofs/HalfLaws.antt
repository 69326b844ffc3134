-- Lines of two halves, written for each pair.
use Rattle.std.proofs.Common.{◌≡◌, ℕ, List, [], ◌∷◌, ◌++◌, flat_map, refl, append_assoc, append-nil, ap, sym, ◌∙◌}
use Rattle.std.proofs.lemmas.List.Folds.{flat_map-map}
use Rattle.acl_rows.specs.Rows.{Row, text_of_rows}
use Rattle.acl_rows.proofs.PutLaws.{rows_append}
use Rattle.acl_platform.specs.Choices.{pairs}
use Rattle.acl_platform.proofs.PairLaws.{over-pairs, pairs-one}

-- texts of items that are those of their rows
each_text : {A : Type 0} (text : A → List ℕ) (rows : A → List Row) → ((x : A) → text x ≡ text_of_rows (rows x))
    → (xs : List A) → flat_map text xs ≡ text_of_rows (flat_map rows xs)
each_text text rows same [] = refl
each_text text rows same (x ∷ xs) =
    ap (λ t. t ++ flat_map text xs) (same x) ∙ ap (λ t. text_of_rows (rows x) ++ t) (each_text text rows same xs)
    ∙ rows_append (rows x) (flat_map rows xs)

-- the lines of all pairs
pub halves_of_pairs : {A B : Type 0} (front : A → List ℕ) (back : B → List ℕ) (rows : A × B → List Row)
    → ((a : A) (b : B) → text_of_rows (rows (a, b)) ≡ front a ++ back b) → (xs : List A) (ys : List B)
    → flat_map (λ a. flat_map (λ b. front a ++ back b) ys) xs ≡ text_of_rows (flat_map rows (pairs xs ys))
halves_of_pairs front back rows halves xs ys =
    each_text (λ a. flat_map (λ b. front a ++ back b) ys) (λ a. flat_map (λ b. rows (a, b)) ys)
    (λ a. each_text (λ b. front a ++ back b) (λ b. rows (a, b)) (λ b. sym (halves a b)) ys) xs
    ∙ ap text_of_rows (over-pairs rows xs ys)

-- the lines of all firsts with one second, behind one front
pub lines_behind_front : {A B P : Type 0} (front : P → List ℕ) (part : A → List ℕ) (back : List ℕ) (rows : A × B → List Row) (p : P) (b : B)
    → ((a : A) → text_of_rows (rows (a, b)) ≡ (front p ++ part a) ++ back) → (xs : List A)
    → flat_map (λ q. flat_map (λ a. front q ++ (part a ++ back)) xs) (p ∷ []) ≡ text_of_rows (flat_map rows (pairs xs (b ∷ [])))
lines_behind_front front part back rows p b parts xs =
    append-nil (flat_map (λ a. front p ++ (part a ++ back)) xs)
    ∙ each_text (λ a. front p ++ (part a ++ back)) (λ a. rows (a, b)) (λ a. sym (append_assoc (front p) (part a) back) ∙ sym (parts a)) xs
    ∙ ap text_of_rows (sym (flat_map-map rows (λ a. (a, b)) xs) ∙ ap (λ both. flat_map rows both) (sym (pairs-one xs b)))
