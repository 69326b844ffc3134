-- Lists of ports as words: what is put of them, and the words that are theirs.
use Rattle.std.proofs.Common.{◌≡◌, ℕ, ◌-◌, ◌<◌, ◌≤◌, true, ◌==◌, List, [], ◌∷◌, ◌++◌, length, take, drop, get_or, map, flat_map, refl, ap, ◌∙◌, append-nil, arith}
use Rattle.std.specs.List.{join_with_byte}
use Rattle.std.proofs.lemmas.Bool.{eqb-true}
use Rattle.std.proofs.Math.Seq.{take-length}
use Rattle.ipt_lang.specs.Texts.{is_single, port_list_words, ports_words}

pub single_map : {A B : Type 0} (f : A → B) (xs : List A) → is_single (map f xs) ≡ is_single xs
single_map f [] = refl
single_map f (x ∷ []) = refl
single_map f (x ∷ y ∷ xs) = refl

abbrev behind_comma : {A : Type 0} → (A → List ℕ) → A → List ℕ
behind_comma f x = 44 ∷ f x

joined_put : {A : Type 0} (f : A → List ℕ) (x : A) (xs : List A) → f x ++ flat_map (behind_comma f) xs ≡ join_with_byte 44 (map f (x ∷ xs))
joined_put f x [] = append-nil (f x)
joined_put f x (y ∷ xs) = ap (λ t. f x ++ (44 ∷ t)) (joined_put f y xs)

pub joined_all : {A : Type 0} (f : A → List ℕ) (xs : List A) (first : A) → 1 ≤ length xs → first ≡ get_or xs 0 first
    → f first ++ flat_map (behind_comma f) (take (length xs - 1) (drop 1 xs)) ≡ join_with_byte 44 (map f xs)
joined_all f [] first h e = absurd (omega arith)
joined_all f (x ∷ xs) first h e =
    let size : length (x ∷ xs) - 1 ≡ length xs = omega arith in
    ap (λ y. f y ++ flat_map (behind_comma f) (take (length (x ∷ xs) - 1) xs)) e
    ∙ ap (λ n. f x ++ flat_map (behind_comma f) (take n xs)) size
    ∙ ap (λ ys. f x ++ flat_map (behind_comma f) ys) (take-length xs) ∙ joined_put f x xs

pub no_items : {A : Type 0} (f : A → List ℕ) (xs : List A) → length xs < 1 → [] ≡ join_with_byte 44 (map f xs)
no_items f [] h = refl
no_items f (x ∷ xs) h = absurd (omega arith)

-- no ports are no words
pub no_ports : {A : Type 0} (f : A → List ℕ) (sports dports : List A) → (length sports == 0) ≡ true → (length dports == 0) ≡ true
    → [] ≡ ports_words (map f sports) (map f dports)
unfolding ports_words port_list_words
no_ports f [] [] h k = refl
no_ports f [] (y ∷ ys) h k =
    let none = eqb-true (length (y ∷ ys)) 0 k in absurd (omega (arith, none))
no_ports f (x ∷ xs) dports h k =
    let none = eqb-true (length (x ∷ xs)) 0 h in absurd (omega (arith, none))
