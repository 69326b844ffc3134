-- Pairs of members of two lists: what they are asked, how many there are, what they are made of, and what is written of them.
use Rattle.std.proofs.Common.{◌≡◌, ◌≢◌, ℕ, zero, suc, ◌*◌, ◌<◌, min, Bool, true, false, ◌&&◌, ◌||◌, List, [], ◌∷◌, ◌++◌, length, map, flat_map, inl, inr, refl, ap, sym, ◌∙◌, arith}
use Rattle.std.specs.List.{AllByRecursion, list_any}
use Rattle.std.proofs.lemmas.Bool.{cases_lt}
use Rattle.std.proofs.lemmas.List.{length-append, length-map, map-append}
use Rattle.std.proofs.lemmas.List.Folds.{flat_map-map, list_any-append}
use Rattle.std.proofs.lemmas.Grind.{flat_map-append}
use Rattle.std.proofs.lemmas.Simd.{map-map}
use Rattle.std.proofs.Math.Nat.{mul-zero, mul_comm}
use Rattle.acl_rows.proofs.ListLaws.{all_flat}
use Rattle.acl_platform.specs.Choices.{pairs}

-- ---- what is written

pub over-pairs : {A B C : Type 0} (f : A × B → List C) (xs : List A) (ys : List B)
    → flat_map (λ x. flat_map (λ y. f (x, y)) ys) xs ≡ flat_map f (pairs xs ys)
over-pairs f [] ys = refl
over-pairs {A = A} {B = B} f (x ∷ xs) ys =
    let here : List (A × B) = map (λ y. (x, y)) ys in
    ap (λ t. t ++ flat_map (λ z. flat_map (λ y. f (z, y)) ys) xs) (sym (flat_map-map f (λ y. (x, y)) ys))
    ∙ ap (λ t. flat_map f here ++ t) (over-pairs f xs ys) ∙ sym (flat_map-append f here (pairs xs ys))

-- ---- pairs of which a part is the same, or made of another

pub pairs-one : {A B : Type 0} (xs : List A) (y : B) → pairs xs (y ∷ []) ≡ map (λ x. (x, y)) xs
pairs-one [] y = refl
pairs-one (x ∷ xs) y = ap (λ t. (x, y) ∷ t) (pairs-one xs y)

pub pairs-map : {A B C : Type 0} (f : B → C) (xs : List A) (ys : List B)
    → pairs xs (map f ys) ≡ map (λ (c : A × B). (c.0, f c.1)) (pairs xs ys)
pairs-map f [] ys = refl
pairs-map {A = A} {B = B} {C = C} f (x ∷ xs) ys =
    let made : A × B → A × C = λ c. (c.0, f c.1) in
    let here : List (A × B) = map (λ y. (x, y)) ys in
    ap (λ t. t ++ pairs xs (map f ys)) (map-map (λ z. (x, z)) f ys ∙ sym (map-map made (λ y. (x, y)) ys))
    ∙ ap (λ t. map made here ++ t) (pairs-map f xs ys) ∙ sym (map-append made here (pairs xs ys))

-- ---- how many

pub length-pairs : {A B : Type 0} (xs : List A) (ys : List B) → length (pairs xs ys) ≡ length xs * length ys
length-pairs [] ys = omega arith
length-pairs {A = A} {B = B} (x ∷ xs) ys =
    let here : List (A × B) = map (λ y. (x, y)) ys in
    let more : List (A × B) = pairs xs ys in
    let both = length-append here more in
    let front : length here ≡ length ys = length-map ys (λ y. (x, y)) in
    let rest = length-pairs xs ys in
    omega (arith, both, front, rest)

above : (a b e : ℕ) → e < a → min (e * b) e ≡ min (a * b) e
above a zero e h = ap (λ n. min n e) (mul-zero e ∙ sym (mul-zero a))
above a (suc b) e h = omega (arith, h)

absorb : (a b e : ℕ) → min (min a e * b) e ≡ min (a * b) e
absorb a b e = elim (cases_lt e a) [
  | inl h ↦ let m : min a e ≡ e = omega (arith, h) in ap (λ n. min (n * b) e) m ∙ above a b e h
  | inr h ↦ let m : min a e ≡ a = omega (arith, h) in ap (λ n. min (n * b) e) m
]

-- a product of counts that stand still at their end
pub product-min : (a b e : ℕ) → min (min a e * min b e) e ≡ min (a * b) e
product-min a b e =
    absorb a (min b e) e ∙ ap (λ n. min n e) (mul_comm a (min b e)) ∙ absorb b a e ∙ ap (λ n. min n e) (mul_comm b a)

-- ---- what is asked

no_second : (f : Bool) → false ≡ f && false
no_second true = refl
no_second false = refl

one_second : (f here later : Bool) → (f && here) || (f && later) ≡ f && (here || later)
one_second true here later = refl
one_second false here later = refl

one_first : (here later second : Bool) → (here && second) || (later && second) ≡ (here || later) && second
one_first false later second = refl
one_first true true true = refl
one_first true true false = refl
one_first true false true = refl
one_first true false false = refl

any-first : {A B : Type 0} (f : A → Bool) (g : B → Bool) (x : A) (ys : List B)
    → list_any {X = A × B} (λ c. f c.0 && g c.1) (map (λ y. (x, y)) ys) ≡ f x && list_any g ys
any-first f g x [] = no_second (f x)
any-first f g x (y ∷ ys) = ap (λ t. (f x && g y) || t) (any-first f g x ys) ∙ one_second (f x) (g y) (list_any g ys)

-- some pair passes exactly where each list has a member that passes
pub any-pairs : {A B : Type 0} (f : A → Bool) (g : B → Bool) (xs : List A) (ys : List B)
    → list_any {X = A × B} (λ c. f c.0 && g c.1) (pairs xs ys) ≡ list_any f xs && list_any g ys
any-pairs f g [] ys = refl
any-pairs {A = A} {B = B} f g (x ∷ xs) ys =
    let test : A × B → Bool = λ c. f c.0 && g c.1 in
    list_any-append test (map (λ y. (x, y)) ys) (pairs xs ys)
    ∙ ap (λ t. t || list_any test (pairs xs ys)) (any-first f g x ys) ∙ ap (λ t. (f x && list_any g ys) || t) (any-pairs f g xs ys)
    ∙ one_first (f x) (list_any f xs) (list_any g ys)

all-first : {A B : Type 0} (P : A → Type 0) (Q : B → Type 0) (x : A) (ys : List B) → P x → AllByRecursion Q ys
    → AllByRecursion {X = A × B} (λ c. P c.0 × Q c.1) (map (λ y. (x, y)) ys)
all-first P Q x [] h k = tt
all-first P Q x (y ∷ ys) h k = ((h, k.0), all-first P Q x ys h k.1)

-- what holds of the members of each list holds of each pair
pub all-pairs : {A B : Type 0} (P : A → Type 0) (Q : B → Type 0) (xs : List A) (ys : List B)
    → AllByRecursion P xs → AllByRecursion Q ys → AllByRecursion {X = A × B} (λ c. P c.0 × Q c.1) (pairs xs ys)
all-pairs {A = A} {B = B} P Q xs ys h k =
    all_flat P (λ (c : A × B). P c.0 × Q c.1) (λ x. map (λ y. (x, y)) ys) (λ x p. all-first P Q x ys p k) xs h

pub some-pair : {A B : Type 0} (xs : List A) (ys : List B) → xs ≢ [] → ys ≢ [] → pairs xs ys ≢ []
some-pair [] ys h k = absurd (h refl)
some-pair (x ∷ xs) [] h k = absurd (k refl)
some-pair (x ∷ xs) (y ∷ ys) h k = λ e. cc
