-- Blocks of numbers whose sizes are powers of two: one that begins at a multiple of its size either
-- lies in a larger such block or has no number of it.
use Rattle.std.proofs.Common.{◌≡◌, ℕ, suc, ◌+◌, ◌-◌, ◌*◌, ◌^◌, ◌<◌, ◌≤◌, ap, sym, ◌∙◌, arith, mul_assoc}
use Rattle.std.proofs.Math.Nat.{lt_of_mul-lt-mul_right, mul-le-mul_right, two-pow-succ}
use Rattle.std.proofs.lemmas.Nat.{pow-add}

-- a multiple of 2 ^ k
abbrev pub Aligned : ℕ → ℕ → Type 0
Aligned k a = (n : ℕ) × (a ≡ n * 2 ^ k)

nest : (n m d s x : ℕ) → n * s ≤ x → x < n * s + s → m * (d * s) ≤ x → x < m * (d * s) + d * s
    → (m * (d * s) ≤ n * s) × (n * s + s ≤ m * (d * s) + d * s)
nest n m d s x p q r t =
    let e : m * (d * s) ≡ (m * d) * s = sym (mul_assoc m d s) in
    let first : m * d < n + 1 = lt_of_mul-lt-mul_right s {m = m * d} {n = n + 1} (omega arith) in
    let last : n < m * d + d = lt_of_mul-lt-mul_right s {m = n} {n = m * d + d} (omega arith) in
    let begins : (m * d) * s ≤ n * s = mul-le-mul_right {m = m * d} {n = n} s (omega arith) in
    let ends : (n + 1) * s ≤ (m * d + d) * s = mul-le-mul_right {m = n + 1} {n = m * d + d} s
    (omega arith) in
    (omega arith, omega arith)

-- a block that has a number of a smaller one has all of it
pub nested : (j k b a x : ℕ) → j ≤ k → Aligned j b → Aligned k a → b ≤ x → x < b + 2 ^ j → a ≤ x
    → x < a + 2 ^ k → (a ≤ b) × (b + 2 ^ j ≤ a + 2 ^ k)
nested j k b a x l small large p q r t =
    let e : k - j + j ≡ k = omega arith in
    let power : 2 ^ k ≡ 2 ^ (k - j) * 2 ^ j = sym (ap (λ z. 2 ^ z) e) ∙ pow-add 2 (k - j) j in
    let whole : large.0 * 2 ^ k ≡ large.0 * (2 ^ (k - j) * 2 ^ j) = ap (λ z. large.0 * z) power in
    let i = nest small.0 large.0 (2 ^ (k - j)) (2 ^ j) x (omega (arith, p, small.1))
    (omega (arith, q, small.1))
    (omega (arith, r, large.1, whole)) (omega (arith, t, large.1, whole, power)) in (
      omega (arith, i.0, small.1, large.1, whole),
      omega (
        arith,
        i.1,
        small.1,
        large.1,
        whole,
        power,
      ),
    )

-- two blocks of one size that have a number in common are one
pub same_block : (k a b x : ℕ) → Aligned k a → Aligned k b → a ≤ x → x < a + 2 ^ k → b ≤ x
    → x < b + 2 ^ k → a ≡ b
same_block k a b x h i p q r t =
    let d = nested k k b a x (omega arith) i h r t p q in
    let e = nested k k a b x (omega arith) h i p q r t in
    omega (arith, d.0, e.0)

pub left_aligned : (k a : ℕ) → Aligned (suc k) a → Aligned k a
left_aligned k a h =
    let e : h.0 * 2 ^ suc k ≡ h.0 * (2 ^ k + 2 ^ k) = ap (λ z. h.0 * z) (two-pow-succ k) in
    (h.0 + h.0, omega (arith, h.1, e))

pub right_aligned : (k a : ℕ) → Aligned (suc k) a → Aligned k (a + 2 ^ k)
right_aligned k a h =
    let e : h.0 * 2 ^ suc k ≡ h.0 * (2 ^ k + 2 ^ k) = ap (λ z. h.0 * z) (two-pow-succ k) in
    (h.0 + h.0 + 1, omega (arith, h.1, e))

-- a multiple of a larger power is one of a smaller
pub shorter_aligned : (j k a : ℕ) → j ≤ k → Aligned k a → Aligned j a
shorter_aligned j k a l h =
    let e : k - j + j ≡ k = omega arith in
    let power : 2 ^ k ≡ 2 ^ (k - j) * 2 ^ j = sym (ap (λ z. 2 ^ z) e) ∙ pow-add 2 (k - j) j in
    (h.0 * 2 ^ (k - j), h.1 ∙ ap (λ z. h.0 * z) power ∙ sym (mul_assoc h.0 (2 ^ (k - j)) (2 ^ j)))

pub power_doubles : (k : ℕ) → 2 ^ (k + 1) ≡ 2 ^ k + 2 ^ k
power_doubles k = let e : k + 1 ≡ suc k = omega arith in ap (λ z. 2 ^ z) e ∙ two-pow-succ k
