-- A table of bytes tells of each byte what a test tells, where it does so of each in turn.
use Rattle.std.proofs.Common.{◌≡◌, ℕ, zero, suc, ◌-◌, ◌<◌, Bool, true, false, ◌&&◌, ◌==◌, List, get_or, refl, subst, inl, inr, arith, eq-zero-or-pos}
use Rattle.std.proofs.lemmas.Bool.{and_parts}

abbrev pub alike : Bool → Bool → Bool
alike true b = b
alike false true = false
alike false false = true

same : (a b : Bool) → alike a b ≡ true → a ≡ b
same true true h = refl
same true false h = absurd (cc)
same false true h = absurd (cc)
same false false h = refl

abbrev pub tells : List ℕ → (ℕ → Bool) → ℕ → Bool
tells table test zero = true
tells table test (suc n) = alike (get_or table n 0 == 121) (test n) && tells table test n

pub told : (table : List ℕ) (test : ℕ → Bool) (m n : ℕ) → tells table test m ≡ true → n < m → (get_or table n 0 == 121) ≡ test n
told table test zero n h l = absurd (omega arith)
told table test (suc m) n h l =
    let both = and_parts (alike (get_or table m 0 == 121) (test m)) (tells table test m) h in
    elim (eq-zero-or-pos (m - n)) [
      | inl z ↦ let here : m ≡ n = omega (arith, z, l) in
          subst (λ (i : ℕ). (get_or table i 0 == 121) ≡ test i) here (same (get_or table m 0 == 121) (test m) both.0)
      | inr g ↦ told table test m n both.1 (omega (arith, g))
    ]
