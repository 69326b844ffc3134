-- Whether some element of a list passes a test, where the list or the test is made of parts.
use Rattle.std.proofs.Common.{◌≡◌, Bool, true, false, ◌&&◌, ◌||◌, List, [], ◌∷◌, map, flat_map, refl, ap, ◌∙◌}
use Rattle.std.specs.List.{list_any}
use Rattle.std.proofs.lemmas.List.Folds.{list_any-append}

pub any-flat : {A B : Type 0} (test : B → Bool) (rows : A → List B) (xs : List A)
    → list_any test (flat_map rows xs) ≡ list_any (λ x. list_any test (rows x)) xs
any-flat test rows [] = refl
any-flat test rows (x ∷ xs) =
    list_any-append test (rows x) (flat_map rows xs) ∙ ap (λ b. list_any test (rows x) || b) (any-flat test rows xs)

pub any-map : {A B : Type 0} (test : B → Bool) (f : A → B) (xs : List A) → list_any test (map f xs) ≡ list_any (λ x. test (f x)) xs
any-map test f [] = refl
any-map test f (x ∷ xs) = ap (λ b. test (f x) || b) (any-map test f xs)

pub any-as : {A : Type 0} (p q : A → Bool) → ((x : A) → p x ≡ q x) → (xs : List A) → list_any p xs ≡ list_any q xs
any-as p q h [] = refl
any-as p q h (x ∷ xs) = ap (λ b. b || list_any p xs) (h x) ∙ ap (λ b. q x || b) (any-as p q h xs)

-- ---- a part of the test that is of no element

none-left : (b : Bool) → false ≡ (b && false)
none-left true = refl
none-left false = refl

left-out : (b p q : Bool) → ((b && p) || (b && q)) ≡ (b && (p || q))
left-out true p q = refl
left-out false p q = refl

pub any-left : {A : Type 0} (b : Bool) (test : A → Bool) (xs : List A) → list_any (λ x. b && test x) xs ≡ (b && list_any test xs)
any-left b test [] = none-left b
any-left b test (x ∷ xs) = ap (λ c. (b && test x) || c) (any-left b test xs) ∙ left-out b (test x) (list_any test xs)

right-out : (p q b : Bool) → ((p && b) || (q && b)) ≡ ((p || q) && b)
right-out true true true = refl
right-out true true false = refl
right-out true false true = refl
right-out true false false = refl
right-out false q b = refl

pub any-right : {A : Type 0} (test : A → Bool) (b : Bool) (xs : List A) → list_any (λ x. test x && b) xs ≡ (list_any test xs && b)
any-right test b [] = refl
any-right test b (x ∷ xs) = ap (λ c. (test x && b) || c) (any-right test b xs) ∙ right-out (test x) (list_any test xs) b
