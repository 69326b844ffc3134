-- The table of the numbers from 0 to 255 has each of them in decimal, and one is written as the front of three bytes.
use Rattle.std.proofs.Common.{◌≡◌, ℕ, zero, suc, ◌+◌, ◌-◌, ◌*◌, ◌/◌, ◌%◌, ◌<◌, ◌≤◌, Bool, true, ◌==◌, ◌&&◌, List, [], ◌∷◌, ◌++◌, length, take, drop, get_or, decimal, refl, ap, sym, subst, ◌∙◌, inl, inr, arith, lit≤, eq-zero-or-pos, take-take, take-add, take_at, drop_at, length-take-le}
use Rattle.std.specs.Str.{bytes_eq}
use Rattle.std.proofs.lemmas.Bool.{and_parts, cases_lt}
use Rattle.std.proofs.lemmas.Bool.Decides.{Decides-eqb}
use Rattle.std.proofs.Math.Seq.{take-append_seam}
use Rattle.std.proofs.lemmas.Slice.{take-put_mid}
use borrow.Rule.Slice.PartMut.{put_mid}
use Rattle.std.proofs.lemmas.Slice.Eq.{bytes_eq-Decides}
use Rattle.std.proofs.lemmas.Fmt.{decimal_digit, decimal_step}
use Rattle.acl_text.specs.declared.octets.TheConstants.{OCTETS, DIGITS}

abbrev one : ℕ → List ℕ
one n = (48 + n) ∷ []

abbrev two : ℕ → List ℕ
two n = (48 + n / 10) ∷ (48 + n % 10) ∷ []

abbrev three : ℕ → List ℕ
three n = (48 + n / 10 / 10) ∷ (48 + n / 10 % 10) ∷ (48 + n % 10) ∷ []

pub one_digit : (n : ℕ) → n < 10 → decimal n ≡ one n
one_digit n h = decimal_digit n h

pub two_digits : (n : ℕ) → 10 ≤ n → n < 100 → decimal n ≡ two n
two_digits n lo hi = rw (decimal_step n lo (omega arith), decimal_digit (n / 10) (omega arith)) refl

pub three_digits : (n : ℕ) → 100 ≤ n → n < 256 → decimal n ≡ three n
three_digits n lo hi =
    rw (decimal_step n (omega arith) (omega arith), decimal_step (n / 10) (omega arith) (omega arith), decimal_digit (n / 10 / 10) (omega arith)) refl

-- the table's numbers from a first one on begin with these texts, and a point
abbrev begin : (ℕ → List ℕ) → ℕ → ℕ → Bool
begin text first zero = true
begin text first (suc n) =
    bytes_eq (take (length (text (first + n)) + 1) (drop (4 * (first + n)) OCTETS)) (text (first + n) ++ 46 ∷ []) && begin text first n

each_begins : (text : ℕ → List ℕ) (first m n : ℕ) → begin text first m ≡ true → first ≤ n → n < first + m
    → take (length (text n) + 1) (drop (4 * n) OCTETS) ≡ text n ++ 46 ∷ []
each_begins text first zero n t l h = absurd (omega (arith, l, h))
each_begins text first (suc m) n t l h =
    let k = first + m in
    let front = λ (i : ℕ). take (length (text i) + 1) (drop (4 * i) OCTETS) in
    let both = and_parts (bytes_eq (front k) (text k ++ 46 ∷ [])) (begin text first m) t in
    elim (eq-zero-or-pos (k - n)) [
      | inl z ↦ subst (λ i. front i ≡ text i ++ 46 ∷ []) (omega (arith, z, l, h)) ((bytes_eq-Decides (front k) (text k ++ 46 ∷ [])).0 both.0)
      | inr g ↦ each_begins text first m n both.1 l (omega (arith, g))
    ]

octet_at : (n : ℕ) → n < 256 → take (length (decimal n) + 1) (drop (4 * n) OCTETS) ≡ decimal n ++ 46 ∷ []
octet_at n h =
    elim (cases_lt n 10) [
      | inl few ↦ rw (one_digit n few) (each_begins one 0 10 n refl (omega arith) few)
      | inr some ↦ elim (cases_lt n 100) [
        | inl few ↦ rw (two_digits n some few) (each_begins two 10 90 n refl some few)
        | inr many ↦ rw (three_digits n many h) (each_begins three 100 156 n refl many h)
      ]
    ]

-- the number's four bytes begin with its text and a point
pub pointed_front : (n from len : ℕ) → n < 256 → from ≡ n → len ≡ 4 → length (decimal n) ≤ 3
    → take (length (decimal n) + 1) (take len (drop (4 * from) OCTETS)) ≡ decimal n ++ 46 ∷ []
pointed_front n from len h same four few =
    rw (same, four) (take-take (length (decimal n) + 1) 4 (drop (4 * n) OCTETS) (omega (arith, few)) ∙ octet_at n h)

pub octet_front : (n : ℕ) (bytes : List ℕ) → take (length (decimal n) + 1) bytes ≡ decimal n ++ 46 ∷ [] → take (length (decimal n)) bytes ≡ decimal n
octet_front n bytes h =
    sym (take-take (length (decimal n)) (length (decimal n) + 1) bytes (omega arith)) ∙ ap (take (length (decimal n))) h ∙ take-append_seam (decimal n) (46 ∷ [])

pub few_digits : (n : ℕ) → n < 256 → length (decimal n) ≤ 3
few_digits n h =
    elim (cases_lt n 10) [
      | inl few ↦ rw (one_digit n few) (lit≤ tt)
      | inr some ↦ elim (cases_lt n 100) [
        | inl few ↦ rw (two_digits n some few) (lit≤ tt)
        | inr many ↦ rw (three_digits n many h) (lit≤ tt)
      ]
    ]

-- a part of a list was written, and what stands up to the n-th of its items counts
pub written_front : (a ys : List ℕ) (i k n : ℕ) → i ≤ length a → n ≤ length ys → take (i + n) (put_mid i k a ys) ≡ take i a ++ take n ys
written_front a ys i k n within few =
    let front = length-take-le i a within in
    sym (take-take (i + n) (i + length ys) (put_mid i k a ys) (omega (arith, few))) ∙ ap (take (i + n)) (take-put_mid i k a ys (i + length ys) refl within)
    ∙ take-add i n (take i a ++ ys) ∙ (λ j. take_at (take i a) ys i front j ++ take n (drop_at (take i a) ys i front j))

-- so many numbers of the table of digits, from a first one on, are the same
abbrev are : ℕ → ℕ → ℕ → ℕ → Bool
are v d first zero = true
are v d first (suc n) = (get_or DIGITS (first + n) d == v) && are v d first n

each_is : (v d first m n : ℕ) → are v d first m ≡ true → first ≤ n → n < first + m → get_or DIGITS n d ≡ v
each_is v d first zero n t l h = absurd (omega (arith, l, h))
each_is v d first (suc m) n t l h =
    let k = first + m in
    let both = and_parts (get_or DIGITS k d == v) (are v d first m) t in
    elim (eq-zero-or-pos (k - n)) [
      | inl z ↦ let same : k ≡ n = omega (arith, z, l, h) in subst (λ (i : ℕ). get_or DIGITS i d ≡ v) same ((Decides-eqb (get_or DIGITS k d) v).0 both.0)
      | inr g ↦ each_is v d first m n both.1 l (omega (arith, g))
    ]

pub digits_at : (n d : ℕ) → n < 256 → get_or DIGITS n d ≡ length (decimal n)
digits_at n d h =
    elim (cases_lt n 10) [
      | inl few ↦ rw (one_digit n few) (each_is 1 d 0 10 n refl (omega arith) few)
      | inr some ↦ elim (cases_lt n 100) [
        | inl few ↦ rw (two_digits n some few) (each_is 2 d 10 90 n refl some few)
        | inr many ↦ rw (three_digits n many h) (each_is 3 d 100 156 n refl many h)
      ]
    ]
