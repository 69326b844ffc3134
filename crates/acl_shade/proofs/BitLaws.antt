-- Bits of rows of words.
use Rattle.std.proofs.Common.{◌≡◌, ◌⊎◌, ℕ, ◌+◌, ◌*◌, ◌/◌, ◌%◌, ◌^◌, ◌<◌, ◌≤◌, List, length, get_or, set, inl, inr, refl, ap, sym, ◌∙◌, arith, w64}
use Rattle.std.specs.Prelude.{bit_and, bit_or}
use Rattle.std.specs.Int.{bit_at}
use Rattle.std.proofs.lemmas.Bool.{cases_eq}
use Rattle.std.proofs.lemmas.List.{get_or-set_same, get_or-set_other}
use Rattle.std.proofs.lemmas.Nat.Bits.{bit_at_and, bit_at_or, bit_at_set_same, bit_at-lt}
use Rattle.acl_shade.specs.Sifting.{Has}

-- ---- a bit of a row

-- The bit stands in this word of the row.
in-row : (words : List ℕ) (start e : ℕ) → bit_at (get_or words ((64 * start + e) / 64) 0) ((64 * start + e) % 64)
    ≡ bit_at (get_or words (start + e / 64) 0) (e % 64)
in-row words start e =
    let q : (64 * start + e) / 64 ≡ start + e / 64 = omega arith in
    let r : (64 * start + e) % 64 ≡ e % 64 = omega arith in
    ap (λ w. bit_at (get_or words w 0) ((64 * start + e) % 64)) q ∙ ap (λ b. bit_at (get_or words (start + e / 64) 0) b) r

pub from-row : (words : List ℕ) (start e : ℕ) → Has words (64 * start + e)
    → bit_at (get_or words (start + e / 64) 0) (e % 64) ≡ 1
unfolding Has
from-row words start e h = sym (in-row words start e) ∙ h

pub to-row : (words : List ℕ) (start e : ℕ) → bit_at (get_or words (start + e / 64) 0) (e % 64) ≡ 1
    → Has words (64 * start + e)
unfolding Has
to-row words start e h = in-row words start e ∙ h

-- ---- a bit is set

pub set-keeps : (words : List ℕ) (w x : ℕ) → w < length words → (e : ℕ) → Has words e
    → Has (set words w (bit_or (get_or words w 0) x)) e
unfolding Has
set-keeps words w x within e h = elim (cases_eq (e / 64) w) [
  | inl same ↦
      let at : get_or (set words w (bit_or (get_or words w 0) x)) (e / 64) 0 ≡ bit_or (get_or words (e / 64) 0) x =
      ap (λ k. get_or (set words w (bit_or (get_or words w 0) x)) k 0) same
      ∙ get_or-set_same words w (bit_or (get_or words w 0) x) 0 within ∙ ap (λ k. bit_or (get_or words k 0) x) (sym same) in
      let less = bit_at-lt x (e % 64) in
      let or = bit_at_or (get_or words (e / 64) 0) x (e % 64) in
      ap (λ y. bit_at y (e % 64)) at ∙ omega (arith, or, less, h)
  | inr other ↦
      ap (λ y. bit_at y (e % 64)) (get_or-set_other words w (e / 64) (bit_or (get_or words w 0) x) 0 other) ∙ h
]

pub set-sets : (words : List ℕ) (start bit : ℕ) → start + bit / 64 < length words
    → Has (set words (start + bit / 64) (bit_or (get_or words (start + bit / 64) 0) (1 * 2 ^ (bit % 64) % 2 ^ 64)))
    (64 * start + bit)
set-sets words start bit within =
    let y : ℕ = bit_or (get_or words (start + bit / 64) 0) (1 * 2 ^ (bit % 64) % 2 ^ 64) in
    to-row (set words (start + bit / 64) y) start bit
    (ap (λ x. bit_at x (bit % 64)) (get_or-set_same words (start + bit / 64) y 0 within)
    ∙ bit_at_set_same w64 (get_or words (start + bit / 64) 0) (bit % 64) (omega arith))

-- ---- bits are kept

pub both-kept : (start other width : ℕ) (old new others : List ℕ)
    → ((k : ℕ) → k < width → (get_or new (start + k) 0 ≡ bit_and (get_or old (start + k) 0) (get_or others (other + k) 0))
    ⊎ (get_or new (start + k) 0 ≡ get_or old (start + k) 0))
    → (e : ℕ) → e < 64 * width → Has old (64 * start + e) → Has others (64 * other + e) → Has new (64 * start + e)
both-kept start other width old new others each e within h i =
    let a : bit_at (get_or old (start + e / 64) 0) (e % 64) ≡ 1 = from-row old start e h in
    let b : bit_at (get_or others (other + e / 64) 0) (e % 64) ≡ 1 = from-row others other e i in
    to-row new start e (elim (each (e / 64) (omega arith)) [
      | inl both ↦ ap (λ x. bit_at x (e % 64)) both
          ∙ bit_at_and (get_or old (start + e / 64) 0) (get_or others (other + e / 64) 0) (e % 64) ∙ rw (a, b) refl
      | inr same ↦ ap (λ x. bit_at x (e % 64)) same ∙ a
    ])

pub beside-kept : (start width : ℕ) (old new : List ℕ)
    → ((k : ℕ) → (k < start) ⊎ (start + width ≤ k) → get_or new k 0 ≡ get_or old k 0)
    → (e : ℕ) → (e < 64 * start) ⊎ (64 * (start + width) ≤ e) → Has old e → Has new e
unfolding Has
beside-kept start width old new same e out h =
    let away : (e / 64 < start) ⊎ (start + width ≤ e / 64) = elim out [
      | inl below ↦ inl (omega arith)
      | inr above ↦ inr (omega arith)
    ] in
    ap (λ x. bit_at x (e % 64)) (same (e / 64) away) ∙ h
