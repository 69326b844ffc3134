-- The choices of a set: what is written of them, and which numbers some choice holds.
use Rattle.std.proofs.Common.{◌≡◌, ◌≢◌, ℕ, zero, suc, ◌+◌, ◌-◌, ◌<◌, ◌≤◌, Bool, true, false, ◌||◌, ◌==◌, nat_le, cond, List, [], ◌∷◌, ◌++◌, map, flat_map, Option, None, Some, inl, inr, refl, ap, sym, subst, ◌∙◌, arith}
use Rattle.std.specs.Bool.{Decides}
use Rattle.std.specs.List.{All, AllByRecursion, list_any, range_with_len}
use Rattle.std.proofs.lemmas.Bool.{cases_lt, eqb-true, false≢true, or_cases, or_left, or_right}
use Rattle.std.proofs.lemmas.Bool.Decides.{Decides-and, Decides-eqb, Decides-like, same_from_decides}
use Rattle.std.proofs.lemmas.List.Elements.{All-from_recursion}
use Rattle.std.proofs.lemmas.List.Folds.{flat_map-map, list_any-append}
use Rattle.acl_rows.specs.Rows.{Row, row_text, text_of_rows}
use Rattle.acl_rows.proofs.DecisionLaws.{le_decides}
use Rattle.acl_rows.proofs.ListLaws.{flat_twice}
use Rattle.acl_sets.specs.declared.sets.Range.{Range}
use Rattle.acl_sets.specs.ComputableSets.{is_all}
use Rattle.acl_sets.specs.Ranges.{holds, inside, IsNormal, IsRange, Numbers}
use Rattle.acl_sets.proofs.ComputableSetLaws.{covers-holds}
use Rattle.acl_platform.specs.Choices.{in_range, is_chosen, number_choices, numbers_in, numbers_of, range_choices}

-- ---- what is written of a set's choices

pub numbers-written : (rows : Option ℕ → List Row) (s : Numbers) → is_all s ≡ false
    → flat_map (λ n. text_of_rows (rows (Some n))) (numbers_of s.ranges) ≡ text_of_rows (flat_map rows (number_choices s))
numbers-written rows s e =
    flat_twice row_text (λ n. rows (Some n)) (numbers_of s.ranges)
    ∙ ap text_of_rows (sym (flat_map-map rows (λ n. Some n) (numbers_of s.ranges))
    ∙ ap (λ b. flat_map rows (cond b (None ∷ []) (map (λ n. Some n) (numbers_of s.ranges)))) (sym e))

pub ranges-written : (rows : Option (ℕ × ℕ) → List Row) (s : Numbers) → is_all s ≡ false
    → flat_map (λ r. rows (Some (r.low, r.high))) s.ranges ≡ flat_map rows (range_choices s)
ranges-written rows s e =
    sym (flat_map-map rows (λ r. Some (r.low, r.high)) s.ranges)
    ∙ ap (λ b. flat_map rows (cond b (None ∷ []) (map (λ r. Some (r.low, r.high)) s.ranges))) (sym e)

-- ---- ranges of a set that has a top

pub fit : (floor top most : ℕ) (rs : List Range) → IsNormal floor top rs → top ≤ most → AllByRecursion (λ r. IsRange most r) rs
fit floor top most [] h k = tt
fit floor top most (r ∷ rs) h k =
    let end = h.2 in ((h.1, omega (arith, end, k)), fit (r.high + 2) top most rs h.3 k)

pub ranges-fit : (floor top most : ℕ) (rs ranges : List Range) → IsNormal floor top rs → top ≤ most → ranges ≡ rs
    → All (λ r. IsRange most r) ranges
ranges-fit floor top most rs ranges h k e =
    let P : List Range → Type 0 = λ l. All (λ r. IsRange most r) l in
    subst P (sym e) (All-from_recursion (λ (r : Range). IsRange most r) rs (fit floor top most rs h k))

-- ---- which numbers some choice holds

row-decides : (a n x : ℕ) → Decides (list_any (λ m. x == m) (range_with_len a n)) ((a ≤ x) × (x < a + n))
row-decides a zero x = (λ h. absurd (false≢true h), λ h. let p = h.0 in let q = h.1 in absurd (omega (arith, p, q)))
row-decides a (suc n) x =
    let rest = row-decides (a + 1) n x in
    let more = list_any (λ m. x == m) (range_with_len (a + 1) n) in
    let to : (x == a) || more ≡ true → (a ≤ x) × (x < a + suc n) = λ h. elim (or_cases (x == a) more h) [
      | inl e ↦ let same = eqb-true x a e in (omega (arith, same), omega (arith, same))
      | inr e ↦ let low = (rest.0 e).0 in let high = (rest.0 e).1 in (omega (arith, low), omega (arith, high))
    ] in
    let back : (a ≤ x) × (x < a + suc n) → (x == a) || more ≡ true = λ h. elim (cases_lt a x) [
      | inl l ↦ let high = h.1 in or_right (x == a) more (rest.1 (omega (arith, l), omega (arith, high)))
      | inr l ↦ let low = h.0 in or_left (x == a) more ((Decides-eqb x a).1 (omega (arith, l, low)))
    ] in
    (to, back)

inside-decides : (r : Range) (x : ℕ) → Decides (inside r x) ((r.low ≤ x) × (x < r.low + (r.high + 1 - r.low)))
inside-decides r x =
    Decides-like (inside r x)
    (λ h. let low = h.0 in let high = h.1 in (low, omega (arith, low, high)))
    (λ h. let low = h.0 in let high = h.1 in (low, omega (arith, low, high)))
    (Decides-and (nat_le r.low x) (nat_le x r.high) (le_decides r.low x) (le_decides x r.high))

number-any : (r : Range) (x : ℕ) → list_any (λ m. x == m) (numbers_in r) ≡ inside r x
number-any r x =
    same_from_decides (list_any (λ m. x == m) (numbers_in r)) (inside r x) (row-decides r.low (r.high + 1 - r.low) x) (inside-decides r x)

pub numbers-any : (rs : List Range) (x : ℕ) → list_any (λ m. x == m) (numbers_of rs) ≡ holds rs x
numbers-any [] x = refl
numbers-any (r ∷ rs) x =
    list_any-append (λ m. x == m) (numbers_in r) (numbers_of rs)
    ∙ ap (λ t. t || list_any (λ m. x == m) (numbers_of rs)) (number-any r x) ∙ ap (λ t. inside r x || t) (numbers-any rs x)

chosen-any : (ns : List ℕ) (x : ℕ) → list_any (λ o. is_chosen o x) (map (λ n. Some n) ns) ≡ list_any (λ m. x == m) ns
chosen-any [] x = refl
chosen-any (n ∷ ns) x = ap (λ t. (x == n) || t) (chosen-any ns x)

number-by : (s : Numbers) (x : ℕ) → x ≤ s.top → (b : Bool) → is_all s ≡ b
    → list_any (λ o. is_chosen o x) (cond b (None ∷ []) (map (λ n. Some n) (numbers_of s.ranges))) ≡ holds s.ranges x
number-by s x h true e = sym (covers-holds s.ranges 0 s.top x e (omega arith) h)
number-by s x h false e = chosen-any (numbers_of s.ranges) x ∙ numbers-any s.ranges x

-- some choice of a set holds a number exactly where the set does
pub any-number : (s : Numbers) (x : ℕ) → x ≤ s.top → list_any (λ o. is_chosen o x) (number_choices s) ≡ holds s.ranges x
any-number s x h = number-by s x h (is_all s) refl

ranges-any : (rs : List Range) (x : ℕ) → list_any (λ o. in_range o x) (map (λ r. Some (r.low, r.high)) rs) ≡ holds rs x
ranges-any [] x = refl
ranges-any (r ∷ rs) x = ap (λ t. inside r x || t) (ranges-any rs x)

range-by : (s : Numbers) (x : ℕ) → x ≤ s.top → (b : Bool) → is_all s ≡ b
    → list_any (λ o. in_range o x) (cond b (None ∷ []) (map (λ r. Some (r.low, r.high)) s.ranges)) ≡ holds s.ranges x
range-by s x h true e = sym (covers-holds s.ranges 0 s.top x e (omega arith) h)
range-by s x h false e = ranges-any s.ranges x

pub any-range : (s : Numbers) (x : ℕ) → x ≤ s.top → list_any (λ o. in_range o x) (range_choices s) ≡ holds s.ranges x
any-range s x h = range-by s x h (is_all s) refl

-- ---- a set with a number has a choice

some-row : (a n : ℕ) → 0 < n → range_with_len a n ≢ []
some-row a zero h = absurd (omega (arith, h))
some-row a (suc n) h = λ e. cc

some-left : {A : Type 0} (xs ys : List A) → xs ≢ [] → xs ++ ys ≢ []
some-left [] ys h = absurd (h refl)
some-left (x ∷ xs) ys h = λ e. cc

pub some-map : {A B : Type 0} (f : A → B) (xs : List A) → xs ≢ [] → map f xs ≢ []
some-map f [] h = absurd (h refl)
some-map f (x ∷ xs) h = λ e. cc

pub first-number : (r : Range) (rs : List Range) → r.low ≤ r.high → numbers_of (r ∷ rs) ≢ []
first-number r rs ends =
    some-left (numbers_in r) (numbers_of rs) (some-row r.low (r.high + 1 - r.low) (omega (arith, ends)))

pub some-numbers : (floor top : ℕ) (rs : List Range) → IsNormal floor top rs → rs ≢ [] → numbers_of rs ≢ []
some-numbers floor top [] h k = absurd (k refl)
some-numbers floor top (r ∷ rs) h k = first-number r rs h.1

some-number-by : (floor top : ℕ) (s : Numbers) → IsNormal floor top s.ranges → s.ranges ≢ [] → (b : Bool)
    → cond b (None ∷ []) (map (λ n. Some n) (numbers_of s.ranges)) ≢ []
some-number-by floor top s h k true = λ e. cc
some-number-by floor top s h k false = some-map (λ n. Some n) (numbers_of s.ranges) (some-numbers floor top s.ranges h k)

pub some-number : (floor top : ℕ) (s : Numbers) → IsNormal floor top s.ranges → s.ranges ≢ [] → number_choices s ≢ []
some-number floor top s h k = some-number-by floor top s h k (is_all s)

some-range-by : (rs : List Range) → rs ≢ [] → (b : Bool) → cond {A = List (Option (ℕ × ℕ))} b (None ∷ []) (map (λ r. Some (r.low, r.high)) rs) ≢ []
some-range-by rs h true = λ e. cc
some-range-by [] h false = absurd (h refl)
some-range-by (r ∷ rs) h false = λ e. cc

pub some-range : (s : Numbers) → s.ranges ≢ [] → range_choices s ≢ []
some-range s h = some-range-by s.ranges h (is_all s)
