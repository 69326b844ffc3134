-- The search for the longest block.
use Rattle.std.proofs.Common.{◌≡◌, ℕ, zero, suc, min, eq-zero-or-pos, ◌+◌, ◌-◌, ◌*◌, ◌/◌, ◌%◌, ◌^◌, ◌<◌, ◌≤◌, inl, inr, refl, ap, ◌∙◌, arith}
use Rattle.std.proofs.Math.Nat.{pow-le-pow_right, two-pow-succ}
use lib.Count.{count_trailing_zeros, trailing_of_zero, under}
use Rattle.std.proofs.lemmas.Nat.{pow_below}
use Rattle.std.proofs.lemmas.Bool.{cases_lt}
use Rattle.acl_packet.specs.declared.addresses.Family.{Family}
use Rattle.acl_packet.specs.Addresses.{width_of}
use Rattle.acl_sets.specs.CutSteps.{IsLongest}
use Rattle.acl_sets.proofs.Powers.{Aligned, shorter_aligned, power_doubles}

-- The search for the longest block

pub power-bound : (k n m : ℕ) → 2 ^ k ≤ n → n ≤ 2 ^ m → k ≤ m
power-bound k n m h l = elim (cases_lt m k) [
  | inl s ↦ absurd (omega (arith, h, l, pow_below m k s))
  | inr s ↦ s
]

doubled : (k m n : ℕ) → n ≡ m + m → Aligned k m → Aligned (suc k) n
doubled k m n e h =
    let power : h.0 * 2 ^ suc k ≡ h.0 * (2 ^ k + 2 ^ k) = ap (λ z. h.0 * z) (two-pow-succ k) in
    (h.0, omega (arith, e, h.1, power))

-- a number is a multiple of the power of its trailing zeros, and of no larger one
zeros_divide : (k n : ℕ) → Aligned (count_trailing_zeros k n) n
unfolding count_trailing_zeros
zeros_divide zero n = (n, omega arith)
zeros_divide (suc k) n = by_digit (zeros_divide k (n / 2)) (n % 2) refl where
  by_digit : Aligned (count_trailing_zeros k (n / 2)) (n / 2) → (d : ℕ) → n % 2 ≡ d → Aligned (under d (count_trailing_zeros k (n / 2))) n
  by_digit half zero e = doubled (count_trailing_zeros k (n / 2)) (n / 2) n (omega (arith, e)) half
  by_digit half (suc d) e = (n, omega arith)

zeros_most : (k n other : ℕ) → 0 < n → n < 2 ^ k → Aligned other n → other ≤ count_trailing_zeros k n
unfolding count_trailing_zeros
zeros_most zero n other some few h = absurd (omega (arith, some, few))
zeros_most (suc k) n zero some few h = omega arith
zeros_most (suc k) n (suc o) some few h = by_digit (zeros_most k (n / 2) o) (n % 2) refl where
  power : h.0 * 2 ^ suc o ≡ h.0 * (2 ^ o + 2 ^ o)
  power = ap (λ z. h.0 * z) (two-pow-succ o)

  half : n / 2 ≡ h.0 * 2 ^ o
  half = omega (arith, h.1, power)

  by_digit : (0 < n / 2 → n / 2 < 2 ^ k → Aligned o (n / 2) → o ≤ count_trailing_zeros k (n / 2))
      → (d : ℕ) → n % 2 ≡ d → suc o ≤ under d (count_trailing_zeros k (n / 2))
  by_digit most zero e = let rest = most (omega (arith, some, e)) (omega (arith, few, two-pow-succ k)) (h.0, half) in omega (arith, rest)
  by_digit most (suc d) e = absurd (omega (arith, e, h.1, power))

pub longest : (bits first last most free : ℕ) → first ≤ last → first < 2 ^ bits → 2 ^ most ≤ last - first + 1
    → last - first + 1 < 2 * 2 ^ most → most ≤ bits → free ≡ min (count_trailing_zeros bits first) most → IsLongest first last free
longest bits first last most free l small fits more few is =
    let zeros = count_trailing_zeros bits first in
    let within : free ≤ most = omega (arith, is) in
    let power = pow-le-pow_right {n = 2} (omega arith) {i = free} {j = most} within in
    record {
      fits = (shorter_aligned free zeros first (omega (arith, is)) (zeros_divide bits first), omega (arith, l, fits, power));
      longest = λ other o.
          let by_size = size other (omega (arith, l, o.1)) in
          let by_place = place other o.0 by_size in
          omega (arith, is, by_size, by_place);
    }
  where
    size : (other : ℕ) → 2 ^ other ≤ last - first + 1 → other ≤ most
    size other h = elim (cases_lt most other) [
      | inl s ↦ absurd (omega (arith, h, more, power_doubles most, pow-le-pow_right {n = 2} (omega arith) {i = most + 1} {j = other} (omega (arith, s))))
      | inr s ↦ s
    ]

    place : (other : ℕ) → Aligned other first → other ≤ most → other ≤ count_trailing_zeros bits first
    place other h below = elim (eq-zero-or-pos first) [
      | inl z ↦ let all = ap (count_trailing_zeros bits) z ∙ trailing_of_zero bits in omega (arith, all, below, few)
      | inr some ↦ zeros_most bits first other some small h
    ]

-- The bits that are free in a block of a family

pub free-fits : (f : Family) (first last free : ℕ) → last < 2 ^ width_of f
    → IsLongest first last free → free ≤ width_of f
free-fits f first last free l h =
    power-bound free (last + 1) (width_of f) (omega (arith, h.fits.1)) (omega arith)
