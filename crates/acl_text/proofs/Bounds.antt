-- How large the numbers are that the groups of an IPv6 address spell.
use Rattle.std.proofs.Common.{◌≡◌, ℕ, ◌+◌, ◌-◌, ◌*◌, ◌^◌, ◌<◌, ◌≤◌, ap, subst, arith}
use Rattle.std.proofs.Math.Nat.{pow-le-pow_right}
use Rattle.std.proofs.lemmas.Nat.{pow-add}
use Rattle.acl_text.proofs.Printed.{sides_fit}

-- up to four hexadecimal digits have 16 bits
pub hex_bound : (v i : ℕ) → v < 16 ^ i → i ≤ 4 → v < 65536
hex_bound v i h l = omega (arith, pow-le-pow_right {n = 16} (omega arith) {i = i} {j = 4} l)

pub hex_more : (v d i : ℕ) → v < 16 ^ i → d < 16 → v * 16 + d < 16 ^ (i + 1)
hex_more v d i h l = omega (arith, pow-add 16 i 1)

-- up to eight groups have 128 bits
pub groups_bound : (v k : ℕ) → v < 65536 ^ k → k ≤ 8 → v < 2 ^ 128
groups_bound v k h l = omega (arith, pow-le-pow_right {n = 65536} (omega arith) {i = k} {j = 8} l)

pub groups_more : (v g left : ℕ) → 0 < left → left ≤ 8 → v < 65536 ^ (8 - left) → g < 65536 → v * 65536 + g < 65536 ^ (8 - (left - 1))
groups_more v g left some l h s =
    let k : ℕ = 8 - left in
    let same : k + 1 ≡ 8 - (left - 1) = omega arith in
    let more : v * 65536 + g < 65536 ^ (k + 1) = omega (arith, pow-add 65536 k 1) in
    subst (λ (m : ℕ). v * 65536 + g < 65536 ^ m) same more

-- the groups of both sides make an address
pub both_bound : (f k b j : ℕ) → k ≤ 8 → j ≤ 8 → f < 65536 ^ (8 - k) → b < 65536 ^ (8 - j) → 8 ≤ k + j → f * 65536 ^ k + b < 2 ^ 128
both_bound f k b j l m h g e =
    let same : 8 - (8 - k) ≡ k = omega arith in
    let whole : f * 65536 ^ (8 - (8 - k)) + b < 2 ^ 128 = sides_fit f (8 - k) b (8 - j) h g (omega arith) in
    subst (λ (n : ℕ). f * 65536 ^ n + b < 2 ^ 128) same whole

pub power_bound : (k : ℕ) → k < 8 → 65536 ^ k < 2 ^ 128
power_bound k l = omega (arith, pow-le-pow_right {n = 65536} (omega arith) {i = k} {j = 7} (omega arith))

-- no group before `::`
pub none_before : (f k b : ℕ) → k ≡ 8 → f < 65536 ^ (8 - k) → b ≡ f * 65536 ^ k + b
none_before f k b e h =
    let same : 65536 ^ (8 - k) ≡ 65536 ^ 0 = let z : 8 - k ≡ 0 = omega arith in ap (λ n. 65536 ^ n) z in
    let none : f ≡ 0 = omega (arith, same) in
    let scaled : f * 65536 ^ k ≡ 0 * 65536 ^ k = ap (λ a. a * 65536 ^ k) none in
    omega (arith, scaled)
