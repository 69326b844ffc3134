-- Lists: what they contain, and rising ones.
use Rattle.std.proofs.Common.{◌≡◌, ℕ, ◌+◌, ◌<◌, ◌⊎◌, zero, suc, true, List, [], ◌∷◌, Contains, length, get_or, refl, sym, ap, ◌∙◌, subst, arith, inl, inr}
use Rattle.std.proofs.lemmas.Bool.{or_cases, or_left, or_right, eqb-true, eq-eqb, cases_order, false≢true}
use Rattle.std.proofs.lemmas.List.Kept.{AllPairs-from_increasing}
use Rattle.std.specs.List.Sorted.{IsStrictlyIncreasing}
use Rattle.acl_dead.specs.Order.{IsBefore}
use Rattle.acl_dead.specs.Deciding.{is_among}

at_place : {X : Type 0} (g : X) (gs : List X) (z : X) (k : ℕ) → k < length (g ∷ gs) → get_or (g ∷ gs) k z ≡ z
    → (g ≡ z) ⊎ Contains gs z
at_place g gs z zero lt at = inl at
at_place g gs z (suc k) lt at = inr (k, omega arith, at)

pub contains_cases : {X : Type 0} (g : X) (gs : List X) (z : X) → Contains (g ∷ gs) z → (g ≡ z) ⊎ Contains gs z
contains_cases g gs z h = at_place g gs z h.0 h.1 h.2

pub contains_later : {X : Type 0} (g : X) (gs : List X) (z : X) → Contains gs z → Contains (g ∷ gs) z
contains_later g gs z h = let lt = h.1 in (suc h.0, omega arith, h.2)

pub contains_first : {X : Type 0} (g : X) (gs : List X) (z : X) → g ≡ z → Contains (g ∷ gs) z
contains_first g gs z e = (0, omega arith, e)

pub contains_none : {X : Type 0} (z : X) → Contains {X = X} [] z → ⊥
contains_none z h = let lt = h.1 in omega arith

pub among_contains : (numbers : List ℕ) (x : ℕ) → is_among numbers x ≡ true → Contains numbers x
among_contains [] x h = absurd (false≢true h)
among_contains (n ∷ ns) x h = elim (or_cases _ _ h) [
  | inl here ↦ contains_first n ns x (eqb-true n x here)
  | inr later ↦ contains_later n ns x (among_contains ns x later)
]

pub contains_among : (numbers : List ℕ) (x : ℕ) → Contains numbers x → is_among numbers x ≡ true
contains_among [] x h = absurd (contains_none x h)
contains_among (n ∷ ns) x h = elim (contains_cases n ns x h) [
  | inl e ↦ or_left _ _ (eq-eqb n x e)
  | inr later ↦ or_right _ _ (contains_among ns x later)
]

-- ---- rising lists

less_later : (x : ℕ) (xs : List ℕ) (z : ℕ) → IsStrictlyIncreasing (x ∷ xs) → Contains xs z → x < z
less_later x xs z rising h =
    let within = h.1 in
    subst (λ (y : ℕ). x < y) h.2 (AllPairs-from_increasing (x ∷ xs) rising 0 (suc h.0) z (omega arith) (omega arith))

rises_later : (x : ℕ) (xs : List ℕ) → IsStrictlyIncreasing (x ∷ xs) → IsStrictlyIncreasing xs
rises_later x xs rising k lt =
    let next : suc k + 1 ≡ suc (k + 1) = omega arith in
    subst (λ (n : ℕ). get_or xs k 0 < get_or (x ∷ xs) n 0) next (rising (suc k) (omega arith))

-- two rising lists with the same numbers are one list
pub one_list : (xs ys : List ℕ) → IsStrictlyIncreasing xs → IsStrictlyIncreasing ys
    → ((z : ℕ) → Contains xs z → Contains ys z) → ((z : ℕ) → Contains ys z → Contains xs z) → xs ≡ ys
one_list [] [] a b f g = refl
one_list [] (y ∷ ys) a b f g = absurd (contains_none y (g y (contains_first y ys y refl)))
one_list (x ∷ xs) [] a b f g = absurd (contains_none x (f x (contains_first x xs x refl)))
one_list (x ∷ xs) (y ∷ ys) a b f g =
    let same : x ≡ y = elim (contains_cases y ys x (f x (contains_first x xs x refl))) [
      | inl e ↦ sym e
      | inr later ↦ elim (contains_cases x xs y (g y (contains_first y ys y refl))) [
        | inl e ↦ e
        | inr after ↦ let over = less_later y ys x b later in let under = less_later x xs y a after in absurd (omega arith)
      ]
    ] in
    ap (λ z. z ∷ xs) same ∙ ap (λ zs. y ∷ zs)
    (one_list xs ys (rises_later x xs a) (rises_later y ys b)
    (λ z h. elim (contains_cases y ys z (f z (contains_later x xs z h))) [
      | inl e ↦ let over = less_later x xs z a h in absurd (omega arith)
      | inr later ↦ later
    ])
    (λ z h. elim (contains_cases x xs z (g z (contains_later y ys z h))) [
      | inl e ↦ let over = less_later y ys z b h in absurd (omega arith)
      | inr later ↦ later
    ]))

-- of two lists of one length one comes before the other, or they are one
pub order_cases : (xs ys : List ℕ) → length xs ≡ length ys → IsBefore xs ys ⊎ ((xs ≡ ys) ⊎ IsBefore ys xs)
order_cases [] [] e = inr (inl refl)
order_cases [] (y ∷ ys) e = absurd (omega arith)
order_cases (x ∷ xs) [] e = absurd (omega arith)
order_cases (x ∷ xs) (y ∷ ys) e = elim (cases_order x y) [
  | inl same ↦ elim (order_cases xs ys (omega arith)) [
    | inl less ↦ inl (inr (same, less))
    | inr other ↦ elim other [
      | inl equal ↦ inr (inl (ap (λ z. z ∷ xs) same ∙ ap (λ zs. y ∷ zs) equal))
      | inr more ↦ inr (inr (inr (sym same, more)))
    ]
  ]
  | inr other ↦ elim other [ inl less ↦ inl (inl less) | inr more ↦ inr (inr (inl more)) ]
]
