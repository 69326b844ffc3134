-- A text that was put, told in other words, and one that was put item by item.
use Rattle.std.proofs.Common.{◌≡◌, ℕ, ◌+◌, ◌<◌, Bool, List, [], ◌∷◌, ◌++◌, length, take, drop, get_or, flat_map, Option, Result, refl, append-nil, ap, sym, subst, ◌∙◌, append_assoc}
use Rattle.std.proofs.lemmas.List.{drop_more, take-append-drop}
use Rattle.std.proofs.lemmas.Grind.{flat_map-append}
use Rattle.acl_text.specs.declared.output.PutFault.{PutFault}
use Rattle.acl_text.specs.Cuts.{views}
use Rattle.acl_rows.specs.Rows.{Row, row_text, text_of_rows, spaced}
use Rattle.std.specs.Borrow.{Bor}
use Rattle.acl_text.specs.Output.{PutsBy}

pub retold : {S T : Type 0} {told : S → Option (List ℕ)} {faults refusals : S → ℕ} {is_open : S → Bool}
    {keeps : S → S → Type 0} {old new : S} {a b : List ℕ} {r : Result T PutFault}
    → a ≡ b → PutsBy told faults refusals is_open keeps old new a r → PutsBy told faults refusals is_open keeps old new b r
retold {told = told} {faults = faults} {refusals = refusals} {is_open = is_open} {keeps = keeps} {old = old} {new = new} {r = r} e h =
    let P : List ℕ → Type 0 = λ t. PutsBy told faults refusals is_open keeps old new t r in
    subst P e h

-- the text of rows, one behind another
pub rows_append : (rows more : List Row) → text_of_rows rows ++ text_of_rows more ≡ text_of_rows (rows ++ more)
rows_append rows more = sym (flat_map-append row_text rows more)

-- items before one, that one, and those behind it
pub split_items : {A B : Type 0} (f : A → List B) (xs : List A) (i : ℕ) (d : A) → i < length xs
    → (flat_map f (take i xs) ++ f (get_or xs i d)) ++ flat_map f (drop (i + 1) xs) ≡ flat_map f xs
split_items f xs i d h =
    append_assoc (flat_map f (take i xs)) (f (get_or xs i d)) (flat_map f (drop (i + 1) xs))
    ∙ sym (flat_map-append f (take i xs) (get_or xs i d ∷ drop (i + 1) xs))
    ∙ ap (λ ys. flat_map f (take i xs ++ ys)) (sym (drop_more xs i d h)) ∙ ap (flat_map f) (take-append-drop i xs)

pub each_split : {A : Type 0} (f : A → List Row) (xs : List A) (i : ℕ) (d : A) → i < length xs
    → (text_of_rows (flat_map f (take i xs)) ++ text_of_rows (f (get_or xs i d))) ++ text_of_rows (flat_map f (drop (i + 1) xs))
    ≡ text_of_rows (flat_map f xs)
each_split f xs i d h =
    let before = flat_map f (take i xs) in
    let rest = flat_map f (drop (i + 1) xs) in
    ap (λ t. t ++ text_of_rows rest) (rows_append before (f (get_or xs i d))) ∙ rows_append (before ++ f (get_or xs i d)) rest
    ∙ ap text_of_rows (split_items f xs i d h)

-- words, put one by one
abbrev one_word : Bor (List ℕ) → List ℕ
one_word w = spaced (w.now ∷ [])

each_word : (xs : List (Bor (List ℕ))) → flat_map one_word xs ≡ spaced (views xs)
each_word [] = refl
each_word (x ∷ xs) = ap (λ t. t ++ flat_map one_word xs) (append-nil (32 ∷ x.now)) ∙ ap (λ t. (32 ∷ x.now) ++ t) (each_word xs)

pub words_split : (xs : List (Bor (List ℕ))) (i : ℕ) (d : Bor (List ℕ)) → i < length xs
    → (spaced (views (take i xs)) ++ spaced ((get_or xs i d).now ∷ [])) ++ spaced (views (drop (i + 1) xs)) ≡ spaced (views xs)
words_split xs i d h =
    let rest = drop (i + 1) xs in
    ap (λ t. (t ++ one_word (get_or xs i d)) ++ spaced (views rest)) (sym (each_word (take i xs)))
    ∙ ap (λ t. (flat_map one_word (take i xs) ++ one_word (get_or xs i d)) ++ t) (sym (each_word rest))
    ∙ split_items one_word xs i d h ∙ each_word xs

-- ---- items that are left

-- one item more was put behind a text
pub one_put : (text item rest left whole : List ℕ) → text ++ left ≡ whole → left ≡ item ++ rest → (text ++ item) ++ rest ≡ whole
one_put text item rest left whole all next = append_assoc text item rest ∙ ap (λ t. text ++ t) (sym next) ∙ all

-- nothing is left
pub all_put : (text left whole : List ℕ) → text ++ left ≡ whole → left ≡ [] → text ≡ whole
all_put text left whole all none = sym (append-nil text) ∙ ap (λ t. text ++ t) (sym none) ∙ all

-- the rows of the first item, and those of the others
pub first_rows : {A : Type 0} (f : A → List Row) (xs ys : List A) (x : A) → xs ≡ x ∷ ys
    → text_of_rows (flat_map f xs) ≡ text_of_rows (f x) ++ text_of_rows (flat_map f ys)
first_rows f xs ys x e = ap (λ zs. text_of_rows (flat_map f zs)) e ∙ sym (rows_append (f x) (flat_map f ys))

-- the text of the first item, and those of the others
pub first_text : {A : Type 0} (f : A → List ℕ) (xs ys : List A) (x : A) → xs ≡ x ∷ ys → flat_map f xs ≡ f x ++ flat_map f ys
first_text f xs ys x e = ap (λ zs. flat_map f zs) e
