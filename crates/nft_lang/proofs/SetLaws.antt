-- Sets as words: what is put of them, and the words that are theirs.
use Rattle.std.proofs.Common.{◌≡◌, ℕ, List, [], ◌∷◌, ◌++◌, map, flat_map, codes, refl, ap, sym, ◌∙◌, append_assoc}
use Rattle.std.proofs.lemmas.Grind.{flat_map-append}
use Rattle.acl_rows.specs.Rows.{spaced}
use Rattle.nft_lang.specs.declared.sets.SetKey.{SetKey}
use Rattle.nft_lang.specs.SetKeys.{key_front, key_word, set_opening}
use Rattle.nft_lang.specs.Texts.{set_words, with_commas}

abbrev behind_comma : {A : Type 0} → (A → List ℕ) → A → List ℕ
behind_comma word e = codes ", " ++ word e

-- the words with their commas, as they are put
pub commas_put : {A : Type 0} (word : A → List ℕ) (x : A) (xs : List A)
    → codes " " ++ (word x ++ flat_map (behind_comma word) xs) ≡ spaced (with_commas (map word (x ∷ xs)))
unfolding with_commas
commas_put word x [] = refl
commas_put word x (y ∷ xs) =
    let rest : List ℕ = flat_map (behind_comma word) xs in
    ap (λ t. 32 ∷ t) (sym (append_assoc (word x) (codes ",") (32 ∷ (word y ++ rest)))
    ∙ ap (λ t. (word x ++ codes ",") ++ t) (append_assoc (codes " ") (word y) rest ∙ commas_put word y xs))

-- the words of a set with elements, as they are put behind its opening
pub set_put : {A : Type 0} (key : SetKey) (word : A → List ℕ) (x : A) (xs : List A)
    → set_opening key ++ (word x ++ (flat_map (behind_comma word) xs ++ codes " }"))
    ≡ spaced (set_words (key_front key) (key_word key) (map word (x ∷ xs)))
unfolding set_opening set_words
set_put key word x xs =
    let front = key_front key in
    let name = key_word key in
    let others : List ℕ = flat_map (behind_comma word) xs in
    let end : List ℕ = codes " }" in
    let behind : List ℕ = word x ++ (others ++ end) in
    ap (λ t. 32 ∷ t) (append_assoc front (32 ∷ (name ++ codes " { ")) behind
    ∙ ap (λ t. front ++ (32 ∷ t)) (append_assoc name (codes " { ") behind
    ∙ ap (λ t. name ++ (codes " {" ++ t)) (ap (λ t. 32 ∷ t) (sym (append_assoc (word x) others end))
    ∙ ap (λ t. t ++ end) (commas_put word x xs)
    ∙ sym (flat_map-append (λ (w : List ℕ). 32 ∷ w) (with_commas (map word (x ∷ xs))) (codes "}" ∷ [])))))
