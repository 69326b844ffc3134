use Rattle.std.proofs.Common.{◌≡◌, ℕ, ◌+◌, ◌*◌, ◌/◌, ◌%◌, ◌^◌, ◌<◌, true, false, eqb, ◌&&◌, ◌||◌, min, bit_and, bit_or, set, replicate, w64, List, length, get_or, refl, sym, ap, ◌∙◌, subst, arith, eq-eqb, inl, inr}
use Rattle.std.specs.Int.{bit_at, trailing_zeros}
use Rattle.std.proofs.lemmas.Nat.{and_le_l}
use Rattle.std.proofs.lemmas.Nat.Bits.{bit_at_and, bit_at-zero, bit_at-lt, bit_at-trailing_zeros, bit_at_set_same, bit_at_set_other}
use Rattle.std.proofs.lemmas.Bool.{eqb-true, cases_lt, cases_eq, false_from_ne_true, ne_eqb}
use Rattle.std.proofs.lemmas.List.{get_or_past, get_or-replicate, length-replicate, get_or-set_same, get_or-set_other}
use Rattle.std.proofs.lemmas.Bool.Decides.{nat_tests}
use Rattle.acl_dead.specs.PlaceSteps.{has, Shared, NoneIn}

-- the place of a bit of a word
quotient : (i k : ℕ) → k < 64 → (i * 64 + k) / 64 ≡ i
quotient i k h = omega arith

rest : (i k : ℕ) → k < 64 → (i * 64 + k) % 64 ≡ k
rest i k h = omega arith

pub has-bit : (ws : List ℕ) (i k : ℕ) → k < 64 → bit_at (get_or ws i 0) k ≡ 1 → has ws (i * 64 + k) ≡ true
unfolding has
has-bit ws i k h e = rw (quotient i k h, rest i k h) (eq-eqb _ 1 e)

pub bit-has : (ws : List ℕ) (b : ℕ) → has ws b ≡ true → bit_at (get_or ws (b / 64) 0) (b % 64) ≡ 1
unfolding has
bit-has ws b e = eqb-true _ 1 e

both-bits : (x y k : ℕ) → bit_at (bit_and x y) k ≡ 1 → (bit_at x k ≡ 1) × (bit_at y k ≡ 1)
both-bits x y k e =
    let m : min (bit_at x k) (bit_at y k) ≡ 1 = sym (bit_at_and x y k) ∙ e in
    (omega (arith, bit_at-lt x k, bit_at-lt y k), omega (arith, bit_at-lt x k, bit_at-lt y k))

pub some_bit : (n : ℕ) → n < 2 ^ 64 → (n ≡ 0 → ⊥) → (k : ℕ) × (k < 64) × (bit_at n k ≡ 1)
some_bit n small some =
    let t = bit_at-trailing_zeros w64 n (omega arith) small in
    (trailing_zeros w64 n, t.0, t.1)

pub shared_at : (ws os ts : List ℕ) (i : ℕ) → get_or ws i 0 < 2 ^ 64
    → (bit_and (bit_and (get_or ws i 0) (get_or os i 0)) (get_or ts i 0) ≡ 0 → ⊥) → Shared ws os ts
shared_at ws os ts i small some =
    let le = and_le_l (get_or ws i 0) (get_or os i 0) in
    let le2 = and_le_l (bit_and (get_or ws i 0) (get_or os i 0)) (get_or ts i 0) in
    let s = some_bit (bit_and (bit_and (get_or ws i 0) (get_or os i 0)) (get_or ts i 0)) (omega arith) some in
    let p = both-bits _ _ s.0 s.2 in
    let q = both-bits _ _ s.0 p.0 in
    (i * 64 + s.0, has-bit ws i s.0 s.1 q.0, has-bit os i s.0 s.1 q.1, has-bit ts i s.0 s.1 p.1)

-- the set of a meeting, word by word
met : (x y k : ℕ) → eqb (bit_at (bit_and x y) k) 1 ≡ (eqb (bit_at x k) 1 && eqb (bit_at y k) 1)
met x y k =
    rw (bit_at_and x y k) (grind (arith, nat_tests, bit_at-lt x k, bit_at-lt y k))

pub has-meet : (vs ws os : List ℕ) → length os ≡ length ws → length vs ≡ length ws
    → ((i : ℕ) → i < length ws → get_or vs i 0 ≡ bit_and (get_or ws i 0) (get_or os i 0))
    → (b : ℕ) → has vs b ≡ (has ws b && has os b)
unfolding has
has-meet vs ws os lo lv each b =
    elim (cases_lt (b / 64) (length ws)) [
      | inl lt ↦ rw (each (b / 64) lt) (met (get_or ws (b / 64) 0) (get_or os (b / 64) 0) (b % 64))
      | inr past ↦
          rw (get_or_past vs (b / 64) 0 (omega arith), get_or_past ws (b / 64) 0 past, bit_at-zero (b % 64)) refl
    ]

zero_at : (ws : List ℕ) → ((i : ℕ) → i < length ws → get_or ws i 0 ≡ 0) → (i : ℕ) → get_or ws i 0 ≡ 0
zero_at ws each i =
    elim (cases_lt i (length ws)) [ inl lt ↦ each i lt | inr past ↦ get_or_past ws i 0 past ]

pub none-in : (ws : List ℕ) → ((i : ℕ) → i < length ws → get_or ws i 0 ≡ 0) → NoneIn ws
none-in ws each b h =
    let e = zero_at ws each (b / 64) in
    let one = bit-has ws b h in
    let z : bit_at (get_or ws (b / 64) 0) (b % 64) ≡ 0 = ap (λ n. bit_at n (b % 64)) e ∙ bit_at-zero (b % 64) in
    omega arith

pub all-zero : (ws : List ℕ) (i : ℕ) → get_or ws i 0 < 2 ^ 64 → NoneIn ws → get_or ws i 0 ≡ 0
all-zero ws i small none =
    elim (cases_eq (get_or ws i 0) 0) [
      | inl e ↦ e
      | inr ne ↦ let s = some_bit _ small ne in absurd (none (i * 64 + s.0) (has-bit ws i s.0 s.1 s.2))
    ]

pub has-zeros : (n b : ℕ) → has (replicate n 0) b ≡ false
has-zeros n b =
    false_from_ne_true (has (replicate n 0) b)
    (none-in (replicate n 0) (λ i lt. get_or-replicate n i 0 0 (subst (λ (k : ℕ). i < k) (length-replicate n 0) lt)) b)

same_place : (b p : ℕ) → b / 64 ≡ p / 64 → b % 64 ≡ p % 64 → b ≡ p
same_place b p q r = omega arith

-- a bit that is set
pub has-insert : (ws vs : List ℕ) (p : ℕ) → p < 64 * length ws
    → vs ≡ set ws (p / 64) (bit_or (get_or ws (p / 64) 0) (1 * 2 ^ (p % 64) % 2 ^ 64))
    → (b : ℕ) → has vs b ≡ (eqb b p || has ws b)
unfolding has
has-insert ws vs p small is b =
    rw is (elim (cases_eq (b / 64) (p / 64)) [
      | inl same ↦ rw (same, get_or-set_same ws (p / 64) (bit_or (get_or ws (p / 64) 0) (1 * 2 ^ (p % 64) % 2 ^ 64)) 0 (omega arith))
          (elim (cases_eq (b % 64) (p % 64)) [
            | inl at ↦ rw (at, bit_at_set_same w64 (get_or ws (p / 64) 0) (p % 64) (omega arith), eq-eqb b p (same_place b p same at)) refl
            | inr off ↦ rw (bit_at_set_other w64 (get_or ws (p / 64) 0) (p % 64) (omega arith) (b % 64) off, ne_eqb b p (λ e. off (ap (λ n. n % 64) e))) refl
          ])
      | inr other ↦ rw (get_or-set_other ws (p / 64) (b / 64) (bit_or (get_or ws (p / 64) 0) (1 * 2 ^ (p % 64) % 2 ^ 64)) 0 other, ne_eqb b p (λ e. other (ap (λ n. n / 64) e))) refl
    ])
