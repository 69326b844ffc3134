-- Words that were put one by one.
use Rattle.std.proofs.Common.{◌≡◌, ℕ, ◌+◌, ◌<◌, List, [], ◌∷◌, ◌++◌, length, take, drop, get_or, map, flat_map, refl, ap, sym, ◌∙◌}
use Rattle.acl_rows.specs.Rows.{spaced}
use Rattle.acl_rows.proofs.PutLaws.{split_items}

spaced_map : {A : Type 0} (f : A → List ℕ) (xs : List A) → flat_map (λ x. 32 ∷ f x) xs ≡ spaced (map f xs)
spaced_map f [] = refl
spaced_map f (x ∷ xs) = ap (λ t. (32 ∷ f x) ++ t) (spaced_map f xs)

-- the words of items before one, the word of that one, and those behind it
pub item_words_split : {A : Type 0} (f : A → List ℕ) (xs : List A) (i : ℕ) (d : A) → i < length xs
    → (spaced (map f (take i xs)) ++ (32 ∷ f (get_or xs i d))) ++ spaced (map f (drop (i + 1) xs)) ≡ spaced (map f xs)
item_words_split f xs i d h =
    let rest = spaced (map f (drop (i + 1) xs)) in
    ap (λ t. (t ++ (32 ∷ f (get_or xs i d))) ++ rest) (sym (spaced_map f (take i xs)))
    ∙ ap (λ t. (flat_map (λ x. 32 ∷ f x) (take i xs) ++ (32 ∷ f (get_or xs i d))) ++ t) (sym (spaced_map f (drop (i + 1) xs)))
    ∙ split_items (λ x. 32 ∷ f x) xs i d h ∙ spaced_map f xs
