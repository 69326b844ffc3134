-- Lists that are joined: what holds of their members, where these stand, and their rows' text.
use Rattle.std.proofs.Common.{◌≡◌, ℕ, zero, suc, ◌+◌, ◌<◌, List, [], ◌∷◌, ◌++◌, length, map, flat_map, slice_get, refl, ap, sym, ◌∙◌, arith}
use Rattle.std.specs.List.{AllByRecursion}
use Rattle.std.proofs.lemmas.Grind.{flat_map-append}
use Rattle.acl_text.proofs.ListLaws.{all_append}
use Rattle.acl_rows.specs.Rows.{Row, row_text, text_of_rows}

pub all_flat : {A B : Type 0} (P : A → Type 0) (Q : B → Type 0) (f : A → List B) → ((x : A) → P x → AllByRecursion Q (f x))
    → (xs : List A) → AllByRecursion P xs → AllByRecursion Q (flat_map f xs)
all_flat P Q f each [] h = tt
all_flat P Q f each (x ∷ xs) h = all_append Q (f x) (flat_map f xs) (each x h.0) (all_flat P Q f each xs h.1)

pub all_map : {A B : Type 0} (P : A → Type 0) (Q : B → Type 0) (f : A → B) → ((x : A) → P x → Q (f x)) → (xs : List A) → AllByRecursion P xs
    → AllByRecursion Q (map f xs)
all_map P Q f each [] h = tt
all_map P Q f each (x ∷ xs) h = (each x h.0, all_map P Q f each xs h.1)

pub get_left : {A : Type 0} (xs ys : List A) (i : ℕ) → i < length xs → slice_get (xs ++ ys) i ≡ slice_get xs i
get_left [] ys i h = absurd (omega arith)
get_left (x ∷ xs) ys zero h = refl
get_left (x ∷ xs) ys (suc i) h = get_left xs ys i (omega arith)

pub get_right : {A : Type 0} (xs ys : List A) (i : ℕ) → slice_get (xs ++ ys) (length xs + i) ≡ slice_get ys i
get_right [] ys i = let e : 0 + i ≡ i = omega arith in ap (slice_get ys) e
get_right (x ∷ xs) ys i =
    let e : length (x ∷ xs) + i ≡ suc (length xs + i) = omega arith in
    ap (slice_get (x ∷ (xs ++ ys))) e ∙ get_right xs ys i

pub joined_text : {A : Type 0} (rows : A → List Row) (xs ys : List A)
    → text_of_rows (flat_map rows xs) ++ text_of_rows (flat_map rows ys) ≡ text_of_rows (flat_map rows (xs ++ ys))
joined_text rows xs ys =
    sym (flat_map-append row_text (flat_map rows xs) (flat_map rows ys)) ∙ ap text_of_rows (sym (flat_map-append rows xs ys))

pub flat_twice : {A B C : Type 0} (g : B → List C) (f : A → List B) (xs : List A)
    → flat_map (λ x. flat_map g (f x)) xs ≡ flat_map g (flat_map f xs)
flat_twice g f [] = refl
flat_twice g f (x ∷ xs) =
    ap (λ t. flat_map g (f x) ++ t) (flat_twice g f xs) ∙ sym (flat_map-append g (f x) (flat_map f xs))
