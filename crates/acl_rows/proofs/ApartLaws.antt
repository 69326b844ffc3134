-- Lists of which no two items clash. Of a sorted one, neighbours tell.
use Rattle.std.proofs.Common.{◌≡◌, ℕ, zero, suc, ◌+◌, ◌<◌, Bool, true, false, not, ◌||◌, ◌&&◌, List, [], ◌∷◌, length, get_or, map, refl, ap, sym, subst, ◌∙◌, arith}
use Rattle.std.specs.Bool.{Decides}
use Rattle.std.specs.Cmp.{IsTotalOrder}
use Rattle.std.specs.List.{AllByRecursion, IsDistinct, list_all, list_any}
use Rattle.std.specs.List.Sorted.{IsPermutation, IsSorted}
use Rattle.std.specs.Ordering.{eq_by_cmp, is_eq, is_lt, ordering_reverse}
use Rattle.std.specs.declared.cmp.Ordering.{Ordering}
use Rattle.std.specs.declared.cmp.Ordering.TheVariants.{Less, Equal, Greater}
use Rattle.std.proofs.lemmas.Bool.{and_parts, or_parts, or_from, false≢true}
use Rattle.std.proofs.lemmas.Bool.Decides.{Decides-and, same_from_decides}
use Rattle.std.proofs.lemmas.Cmp.{eq_by_cmp_equiv}
use Rattle.std.proofs.lemmas.List.Sorted.{All-permutation, IsPermutation-sym}
use Rattle.std.proofs.lemmas.List.Sums.{AllPass-from_list_all, list_all-from_AllPass}
use Rattle.std.proofs.lemmas.Map.Keys.{IsDistinct-IsPermutation}
use Rattle.acl_rows.specs.ApartSteps.{are_apart, are_rising, is_below_first, TellsApart}

not_false : (a : Bool) → not a ≡ true → a ≡ false
not_false true h = absurd (false≢true h)
not_false false h = refl

abbrev pub Apart : {A : Type 0} → (A → A → Bool) → A → List A → Type 0
Apart clash x xs = AllByRecursion (λ y. clash x y ≡ false) xs

pub none_clashes : {A : Type 0} (clash : A → A → Bool) (x : A) (xs : List A) → list_any (λ y. clash x y) xs ≡ false → Apart clash x xs
none_clashes clash x [] h = tt
none_clashes clash x (y ∷ xs) h =
    let p = or_parts (clash x y) (list_any (λ z. clash x z) xs) h in (p.0, none_clashes clash x xs p.1)

no_clash : {A : Type 0} (clash : A → A → Bool) (x : A) (xs : List A) → Apart clash x xs → list_any (λ y. clash x y) xs ≡ false
no_clash clash x [] h = refl
no_clash clash x (y ∷ xs) h = or_from (clash x y) (list_any (λ z. clash x z) xs) h.0 (no_clash clash x xs h.1)

pub apart_decides : {A : Type 0} (clash : A → A → Bool) (xs : List A) → Decides (are_apart clash xs) (IsDistinct clash xs)
unfolding are_apart IsDistinct
apart_decides clash [] = (λ h. tt, λ h. refl)
apart_decides clash (x ∷ xs) =
    let here = list_any (λ y. clash x y) xs in
    Decides-and (not here) (are_apart clash xs) (λ h. none_clashes clash x xs (not_false here h), λ h. ap not (no_clash clash x xs h)) (apart_decides clash xs)

-- items clash where what is seen of them does
any_like : {A B : Type 0} (f : A → B) (c : A → A → Bool) (d : B → B → Bool) → ((x y : A) → c x y ≡ d (f x) (f y))
    → (x : A) (xs : List A) → list_any (λ y. c x y) xs ≡ list_any (λ y. d (f x) y) (map f xs)
any_like f c d same x [] = refl
any_like f c d same x (y ∷ xs) = ap (λ b. b || list_any (λ z. c x z) xs) (same x y) ∙ ap (λ b. d (f x) (f y) || b) (any_like f c d same x xs)

pub apart_like : {A B : Type 0} (f : A → B) (c : A → A → Bool) (d : B → B → Bool) → ((x y : A) → c x y ≡ d (f x) (f y))
    → (xs : List A) → are_apart c xs ≡ are_apart d (map f xs)
unfolding are_apart
apart_like f c d same [] = refl
apart_like f c d same (x ∷ xs) =
    ap (λ b. not b && are_apart c xs) (any_like f c d same x xs) ∙ ap (λ b. not (list_any (λ y. d (f x) y) (map f xs)) && b) (apart_like f c d same xs)

-- ---- lists that rise

module _ {A : Type 0} {clash below : A → A → Bool} {IsUp : A → A → Type 0} {is_sound : A → Bool} (tells : TellsApart clash below IsUp is_sound) where
  below_all : (x : A) (xs : List A) → is_below_first below x xs ≡ true → are_rising below xs ≡ true → list_any (λ y. clash x y) xs ≡ false
  unfolding are_rising
  below_all x [] h k = refl
  below_all x (y ∷ xs) h k =
      let p = and_parts (is_below_first below y xs) (are_rising below xs) k in
      or_from (clash x y) (list_any (λ z. clash x z) xs) (tells.apart x y h) (below_all x xs (first_below xs p.0) p.1) where
        first_below : (zs : List A) → is_below_first below y zs ≡ true → is_below_first below x zs ≡ true
        first_below [] e = refl
        first_below (z ∷ zs) e = tells.goes_on x y z h e

  rising_apart : (xs : List A) → are_rising below xs ≡ true → are_apart clash xs ≡ true
  unfolding are_rising are_apart
  rising_apart [] h = refl
  rising_apart (x ∷ xs) h =
      let p = and_parts (is_below_first below x xs) (are_rising below xs) h in
      ap (λ b. not b && are_apart clash xs) (below_all x xs p.0 p.1) ∙ rising_apart xs p.1

  apart_rising : (xs : List A) → ((k n : ℕ) (d : A) → n ≡ k + 1 → n < length xs → IsUp (get_or xs k d) (get_or xs n d))
      → list_all is_sound xs ≡ true → are_apart clash xs ≡ true → are_rising below xs ≡ true
  unfolding are_rising are_apart
  apart_rising [] up s h = refl
  apart_rising (x ∷ []) up s h = refl
  apart_rising (x ∷ y ∷ xs) up s h =
      let p = and_parts (not (list_any (λ z. clash x z) (y ∷ xs))) (are_apart clash (y ∷ xs)) h in
      let q = or_parts (clash x y) (list_any (λ z. clash x z) xs) (not_false (list_any (λ z. clash x z) (y ∷ xs)) p.0) in
      let t = and_parts (is_sound x) (list_all is_sound (y ∷ xs)) s in
      let u = and_parts (is_sound y) (list_all is_sound xs) t.1 in
      ap (λ b. b && are_rising below (y ∷ xs)) (tells.meets x y u.0 (up zero (suc zero) x (omega arith) (omega arith)) q.0)
      ∙ apart_rising (y ∷ xs) (λ k n d e inside. up (suc k) (suc n) d (omega (arith, e)) (omega (arith, inside))) t.1 p.1

  -- what is sorted rises exactly where no two items clash
  pub sorted_tells : (xs ys : List A) → IsPermutation xs ys → ((k : ℕ) (d : A) → k + 1 < length ys → IsUp (get_or ys k d) (get_or ys (k + 1) d))
      → list_all is_sound xs ≡ true → are_rising below ys ≡ are_apart clash xs
  sorted_tells xs ys p up s =
      let sound : list_all is_sound ys ≡ true =
      list_all-from_AllPass is_sound ys (All-permutation (λ x. is_sound x ≡ true) xs ys p (AllPass-from_list_all is_sound xs s)) in
      let next : (k n : ℕ) (d : A) → n ≡ k + 1 → n < length ys → IsUp (get_or ys k d) (get_or ys n d) =
      λ k n d e inside. subst (λ m. IsUp (get_or ys k d) (get_or ys m d)) (sym e) (up k d (omega (arith, e, inside))) in
      let front = apart_decides clash xs in
      let back = apart_decides clash ys in
      same_from_decides (are_rising below ys) (are_apart clash xs) (
        λ h. IsDistinct-IsPermutation clash tells.flips ys xs (IsPermutation-sym xs ys p) (back.0 (rising_apart ys h)),
        λ h. apart_rising ys next sound (back.1 (IsDistinct-IsPermutation clash tells.flips xs ys p h)),
      )
      front

-- ---- keys in their order

is_less : (a : Ordering) → is_lt a ≡ true → a ≡ Less
is_less Less h = refl
is_less Equal h = absurd (false≢true h)
is_less Greater h = absurd (false≢true h)

not_equal : (a : Ordering) → is_lt a ≡ true → is_eq a ≡ false
not_equal Less h = refl
not_equal Equal h = absurd (false≢true h)
not_equal Greater h = absurd (false≢true h)

less_else : (a : Ordering) → is_lt a ≡ false → is_eq (ordering_reverse a) ≡ false → is_lt (ordering_reverse a) ≡ true
less_else Less h e = absurd (false≢true (sym h))
less_else Equal h e = absurd (false≢true (sym e))
less_else Greater h e = refl

order_tells : {K : Type 0} {R : K → K → Ordering} → IsTotalOrder R
    → TellsApart (eq_by_cmp R) (λ x y. is_lt (R x y)) (λ x y. is_lt (R y x) ≡ false) (λ x. true)
order_tells {R = R} o = record {
  flips = (eq_by_cmp_equiv o).symm;
  goes_on = λ x y z h k. ap is_lt (o.trans x y z (is_less (R x y) h) (is_less (R y z) k));
  apart = λ x y h. not_equal (R x y) h;
  meets = λ x y s u h. ap is_lt (o.antisymm x y) ∙ less_else (R y x) u (ap is_eq (sym (o.antisymm x y)) ∙ h);
}

pub all_true : {A : Type 0} (xs : List A) → list_all (λ x. true) xs ≡ true
all_true [] = refl
all_true (x ∷ xs) = all_true xs

-- sorted keys rise exactly where no two are the same
pub sorted_keys : {K : Type 0} {R : K → K → Ordering} → IsTotalOrder R → (xs ys : List K) → IsPermutation xs ys → IsSorted R ys
    → are_rising (λ x y. is_lt (R x y)) ys ≡ are_apart (eq_by_cmp R) xs
sorted_keys o xs ys p s = sorted_tells (order_tells o) xs ys p (λ k d inside. s k d (omega arith) inside) (all_true xs)
