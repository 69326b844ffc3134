-- The table of pairs has the two hexadecimal digits of each byte, and a group is written as its bytes.
use Rattle.std.proofs.Common.{◌≡◌, ℕ, zero, suc, ◌-◌, ◌*◌, ◌/◌, ◌%◌, ◌<◌, ◌≤◌, Bool, true, ◌&&◌, nat_lt, if◌then◌else◌, List, [], ◌∷◌, ◌++◌, take, drop, refl, ap, sym, subst, ◌∙◌, inl, inr, arith, eq-zero-or-pos}
use Rattle.std.specs.Str.{bytes_eq}
use Rattle.std.proofs.lemmas.Bool.{and_parts, cond-true, cond-false, lt-ltb, le-ltb, cases_lt}
use Rattle.std.proofs.lemmas.List.{append_assoc}
use Rattle.std.proofs.lemmas.Slice.Eq.{bytes_eq-Decides}
use Rattle.acl_text.specs.declared.hex_digits.TheConstants.{PAIRS}
use Rattle.acl_text.specs.Ipv6.{hex_digit, group_text}

-- ---- the table

abbrev pair : ℕ → List ℕ
pair n = hex_digit (n / 16) ∷ hex_digit (n % 16) ∷ []

abbrev tells : ℕ → Bool
tells zero = true
tells (suc n) = bytes_eq (take 2 (drop (2 * n) PAIRS)) (pair n) && tells n

told : (m n : ℕ) → tells m ≡ true → n < m → take 2 (drop (2 * n) PAIRS) ≡ pair n
told zero n h l = absurd (omega arith)
told (suc m) n h l =
    let both = and_parts (bytes_eq (take 2 (drop (2 * m) PAIRS)) (pair m)) (tells m) h in
    elim (eq-zero-or-pos (m - n)) [
      | inl z ↦ let here : m ≡ n = omega (arith, z, l) in
          subst (λ (i : ℕ). take 2 (drop (2 * i) PAIRS) ≡ pair i) here ((bytes_eq-Decides (take 2 (drop (2 * m) PAIRS)) (pair m)).0 both.0)
      | inr g ↦ told m n both.1 (omega (arith, g))
    ]

pub pair_at : (n from len : ℕ) → n < 256 → from ≡ n → len ≡ 2 → take len (drop (2 * from) PAIRS) ≡ hex_digit (n / 16) ∷ hex_digit (n % 16) ∷ []
pair_at n from len h same two = rw (same, two) (told 256 n refl h)

-- ---- groups

pub one_digit : (n : ℕ) → n < 16 → group_text n ≡ hex_digit n ∷ []
unfolding group_text
one_digit n h = cond-true (nat_lt n 16) _ _ (lt-ltb n 16 h)

pub two_digits : (n : ℕ) → 16 ≤ n → n < 256 → group_text n ≡ hex_digit (n / 16) ∷ hex_digit (n % 16) ∷ []
unfolding group_text
two_digits n l h = cond-false (nat_lt n 16) _ _ (le-ltb n 16 l) ∙ cond-true (nat_lt n 256) _ _ (lt-ltb n 256 h)

-- more digits than two
wide : (n : ℕ) → 256 ≤ n → group_text n ≡ (if nat_lt n 4096 then hex_digit (n / 256) ∷ hex_digit (n / 16 % 16) ∷ hex_digit (n % 16) ∷ []
    else hex_digit (n / 4096) ∷ hex_digit (n / 256 % 16) ∷ hex_digit (n / 16 % 16) ∷ hex_digit (n % 16) ∷ [])
unfolding group_text
wide n l = cond-false (nat_lt n 16) _ _ (le-ltb n 16 (omega arith)) ∙ cond-false (nat_lt n 256) _ _ (le-ltb n 256 l)

last : (n : ℕ) → hex_digit (n / 16 % 16) ∷ hex_digit (n % 16) ∷ [] ≡ pair (n % 256)
last n =
    let high : n / 16 % 16 ≡ n % 256 / 16 = omega arith in
    let low : n % 16 ≡ n % 256 % 16 = omega arith in
    ap (λ d. hex_digit d ∷ hex_digit (n % 16) ∷ []) high ∙ ap (λ d. hex_digit (n % 256 / 16) ∷ hex_digit d ∷ []) low

-- a group of two bytes is written as the first of them, and both digits of the last
wide_group : (n : ℕ) → 256 ≤ n → n < 65536 → group_text n ≡ group_text (n / 256) ++ hex_digit (n % 256 / 16) ∷ hex_digit (n % 256 % 16) ∷ []
wide_group n l h = elim (cases_lt n 4096) [
  | inl few ↦
      wide n l ∙ cond-true (nat_lt n 4096) _ _ (lt-ltb n 4096 few) ∙ ap (λ t. hex_digit (n / 256) ∷ t) (last n)
      ∙ ap (λ t. t ++ pair (n % 256)) (sym (one_digit (n / 256) (omega arith)))
  | inr many ↦
      let first : n / 4096 ≡ n / 256 / 16 = omega arith in
      wide n l ∙ cond-false (nat_lt n 4096) _ _ (le-ltb n 4096 many) ∙ ap (λ t. hex_digit (n / 4096) ∷ hex_digit (n / 256 % 16) ∷ t) (last n)
      ∙ ap (λ d. hex_digit d ∷ hex_digit (n / 256 % 16) ∷ pair (n % 256)) first
      ∙ ap (λ t. t ++ pair (n % 256)) (sym (two_digits (n / 256) (omega arith) (omega arith)))
]

pub written : (old byte two new : List ℕ) (n : ℕ) → 256 ≤ n → n < 65536 → byte ≡ old ++ group_text (n / 256)
    → two ≡ hex_digit (n % 256 / 16) ∷ hex_digit (n % 256 % 16) ∷ [] → new ≡ byte ++ two → new ≡ old ++ group_text n
written old byte two new n l h first last all =
    all ∙ ap (λ t. t ++ two) first ∙ append_assoc old (group_text (n / 256)) two ∙ ap (λ t. old ++ (group_text (n / 256) ++ t)) last
    ∙ ap (λ t. old ++ t) (sym (wide_group n l h))
