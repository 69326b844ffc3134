-- What follows where a part was read.
use Rattle.std.proofs.Common.{◌≡◌, ℕ, true, false, List, Option, None, Some, option_map, refl, ap, sym, subst, ◌∙◌}
use Rattle.std.specs.Str.{bytes_eq}
use Rattle.std.proofs.lemmas.Bool.{false_from_ne_true}
use Rattle.std.proofs.lemmas.Option.{none-some, same_Some}
use Rattle.std.proofs.lemmas.Slice.Eq.{bytes_eq-Decides}
use Rattle.acl_text.specs.OptionSteps.{◌>>=◌}

-- a part was read, and then the next
pub bound : {A B : Type 0} (o : Option A) (f : A → Option B) (y : B) → (o >>= f) ≡ Some y → (x : A) × (o ≡ Some x) × (f x ≡ Some y)
bound None f y e = absurd (none-some y e)
bound (Some x) f y e = (x, refl, e)

pub bound_on : {A B : Type 0} (o : Option A) (x : A) (f : A → Option B) (y : B) → o ≡ Some x → f x ≡ Some y → (o >>= f) ≡ Some y
bound_on o x f y e h = ap (λ p. p >>= f) e ∙ h

pub mapped : {A B : Type 0} (f : A → B) (o : Option A) (y : B) → option_map f o ≡ Some y → (x : A) × (o ≡ Some x) × (f x ≡ y)
mapped f None y e = absurd (none-some y e)
mapped f (Some x) y e = (x, refl, same_Some (f x) y e)

-- what holds of what was read
pub by_Some : {A : Type 0} (P : A → Type 0) (x y : A) → Some x ≡ Some y → P x → P y
by_Some P x y e p = subst P (same_Some x y e) p

-- a word that is read is no word that is not
pub not_word : {A : Type 0} (f : List ℕ → Option A) (w t : List ℕ) (x : A) → f w ≡ Some x → f t ≡ None → bytes_eq w t ≡ false
not_word f w t x e n = false_from_ne_true (bytes_eq w t) (λ h. none-some x (sym n ∙ ap f (sym ((bytes_eq-Decides w t).0 h)) ∙ e))

pub same_bytes : (xs ys : List ℕ) → bytes_eq xs ys ≡ true → xs ≡ ys
same_bytes xs ys h = (bytes_eq-Decides xs ys).0 h

pub bytes_same : (xs ys : List ℕ) → xs ≡ ys → bytes_eq xs ys ≡ true
bytes_same xs ys h = (bytes_eq-Decides xs ys).1 h
