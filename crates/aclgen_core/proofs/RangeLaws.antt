-- Lists of what the numbers from 0 on become: functions whose lists are the same are the same at each number.
use Rattle.std.proofs.Common.{◌≡◌, ℕ, ◌+◌, ◌<◌, zero, suc, List, [], ◌∷◌, ◌++◌, map, ap, subst, ◌∙◌, arith}
use Rattle.std.specs.List.{range_with_len}
use Rattle.std.proofs.lemmas.List.{map-append}
use Rattle.aclgen_core.specs.WorkloadNames.{each}

abbrev pub head_or : {A : Type 0} → A → List A → A
head_or d [] = d
head_or d (x ∷ xs) = x

abbrev pub tail_of : {A : Type 0} → List A → List A
tail_of [] = []
tail_of (x ∷ xs) = xs

same_from : {A : Type 0} (f g : ℕ → A) (a n i : ℕ) → map f (range_with_len a n) ≡ map g (range_with_len a n) → i < n → f (a + i) ≡ g (a + i)
same_from f g a zero i e below = absurd (omega (arith, below))
same_from f g a (suc n) zero e below = subst (λ k. f k ≡ g k) (omega arith) (ap (head_or (f a)) e)
same_from f g a (suc n) (suc i) e below =
    subst (λ k. f k ≡ g k) (omega arith) (same_from f g (a + 1) n i (ap tail_of e) (omega (arith, below)))

-- Two functions are the same at each number below a bound.
abbrev pub SameBelow : {A : Type 0} → ℕ → (ℕ → A) → (ℕ → A) → Type 0
SameBelow n f g = (i : ℕ) → i < n → f i ≡ g i

pub computed : {A : Type 0} (n : ℕ) (f g : ℕ → A) → each f n ≡ each g n → SameBelow n f g
computed n f g e i below = subst (λ k. f k ≡ g k) (omega arith) (same_from f g 0 n i e below)

-- one more number stands behind the others
pub range_more : (a n : ℕ) → range_with_len a (suc n) ≡ range_with_len a n ++ (a + n) ∷ []
range_more a zero = ap (λ k. k ∷ []) (omega arith)
range_more a (suc n) = ap (λ xs. a ∷ xs) (range_more (a + 1) n ∙ ap (λ k. range_with_len (a + 1) n ++ k ∷ []) (omega arith))

pub each_more : {A : Type 0} (f : ℕ → A) (n : ℕ) → each f (suc n) ≡ each f n ++ f n ∷ []
each_more f n =
    ap (map f) (range_more 0 n) ∙ map-append f (range_with_len 0 n) ((0 + n) ∷ []) ∙ ap (λ k. each f n ++ f k ∷ []) (omega arith)
