-- Lists from which elements are taken out: what is left has no more of anything.
use Rattle.std.proofs.Common.{◌≡◌, ℕ, ◌+◌, ◌≤◌, Bool, false, List, [], ◌∷◌, ◌++◌, inl, inr, refl, ap, ◌∙◌, arith}
use Rattle.std.specs.List.{list_any}
use Rattle.std.proofs.lemmas.Bool.{or_from, or_parts}
use Rattle.acl_filters.specs.FewerRules.{IsLeftOf}

-- ---- longer lists

-- A further element is taken out.
pub left-skip : {A : Type 0} (xs : List A) (y : A) (ys : List A) → IsLeftOf xs ys → IsLeftOf xs (y ∷ ys)
left-skip [] y ys h = tt
left-skip (x ∷ xs) y ys h = inr h

-- All of a list can be taken out behind another.
pub left-more : {A : Type 0} (xs ys zs : List A) → IsLeftOf xs ys → IsLeftOf xs (ys ++ zs)
left-more [] ys zs h = tt
left-more (x ∷ xs) [] zs h = absurd h
left-more (x ∷ xs) (y ∷ ys) zs h = elim h [
  | inl p ↦ inl (p.0, left-more xs ys zs p.1)
  | inr q ↦ inr (left-more (x ∷ xs) ys zs q)
]

-- Or all of it stays.
left-end : {A : Type 0} (ys zs : List A) → IsLeftOf zs zs → IsLeftOf zs (ys ++ zs)
left-end [] zs h = h
left-end (y ∷ ys) zs h = left-skip zs y (ys ++ zs) (left-end ys zs h)

pub left-same : {A : Type 0} (xs : List A) → IsLeftOf xs xs
left-same [] = tt
left-same (x ∷ xs) = inl (refl, left-same xs)

pub left-append : {A : Type 0} (xs ys zs : List A) → IsLeftOf xs ys → IsLeftOf (xs ++ zs) (ys ++ zs)
left-append [] ys zs h = left-end ys zs (left-same zs)
left-append (x ∷ xs) [] zs h = absurd h
left-append (x ∷ xs) (y ∷ ys) zs h = elim h [
  | inl p ↦ inl (p.0, left-append xs ys zs p.1)
  | inr q ↦ inr (left-append (x ∷ xs) ys zs q)
]

-- ---- tests and counts

-- What no element passes, none that is left passes.
pub left-none : {A : Type 0} (test : A → Bool) (xs ys : List A) → IsLeftOf xs ys → list_any test ys ≡ false → list_any test xs ≡ false
left-none test [] ys h none = refl
left-none test (x ∷ xs) [] h none = absurd h
left-none test (x ∷ xs) (y ∷ ys) h none =
    let parts = or_parts (test y) (list_any test ys) none in
    elim h [
      | inl p ↦ or_from (test x) (list_any test xs) (ap test p.0 ∙ parts.0) (left-none test xs ys p.1 parts.1)
      | inr q ↦ left-none test (x ∷ xs) ys q parts.1
    ]

-- A count that each element adds to.
pub left-count : {A : Type 0} (count : List A → ℕ) (size : A → ℕ) → count [] ≡ 0
    → ((x : A) (xs : List A) → count (x ∷ xs) ≡ size x + count xs)
    → (xs ys : List A) → IsLeftOf xs ys → count xs ≤ count ys
left-count count size none step [] ys h = omega (arith, none)
left-count count size none step (x ∷ xs) [] h = absurd h
left-count count size none step (x ∷ xs) (y ∷ ys) h =
    let below = step y ys in
    elim h [
      | inl p ↦
          let above = step x xs in
          let here : size x ≡ size y = ap size p.0 in
          let rest = left-count count size none step xs ys p.1 in
          omega (arith, below, above, here, rest)
      | inr q ↦
          let rest = left-count count size none step (x ∷ xs) ys q in
          omega (arith, below, rest)
    ]
