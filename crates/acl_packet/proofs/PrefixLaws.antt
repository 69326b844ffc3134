-- Where a prefix ends, and how large its wildcard is.
use Rattle.std.proofs.Common.{◌≡◌, ℕ, ◌+◌, ◌-◌, ◌*◌, ◌^◌, ◌<◌, ◌≤◌, lit<, lit≤, arith, refl, ap, sym, subst, ◌∙◌}
use Rattle.std.proofs.Math.Nat.{lt_of_mul-lt-mul_right, mul-le-mul_right}
use Rattle.std.proofs.lemmas.Nat.{pow-add}
use Rattle.std.proofs.Math.Nat.{pow-le-pow_right}
use Rattle.std.proofs.Math.Pow.{pow-lt}
use Rattle.acl_packet.specs.declared.addresses.Family.{Family}
use Rattle.acl_packet.specs.declared.addresses.Family.TheVariants.{V4, V6}
use Rattle.acl_packet.specs.declared.addresses.Prefix.{Prefix}
use Rattle.acl_packet.specs.Addresses.{width_of, size_of, IsPrefix, IsPrefixOf, everywhere}

pub width-le : (f : Family) → width_of f ≤ 128
width-le V4 = lit≤ tt
width-le V6 = lit≤ tt

-- a power of fewer bits than an IPv6 address has is an IPv6 address
pub small_power : (n : ℕ) → n < 128 → 2 ^ n < 2 ^ 128
small_power n h = pow-lt h

-- a block of s numbers that begins below m blocks of that size ends at their end at the latest
block_fits : (n m s : ℕ) → n * s < m * s → n * s + s ≤ m * s
block_fits n m s h =
    let below : n < m = lt_of_mul-lt-mul_right s h in
    let step : n + 1 ≤ m = omega arith in
    let wide = mul-le-mul_right {m = n + 1} {n = m} s step in
    omega arith

whole_is : (w l : ℕ) → l ≤ w → 2 ^ l * 2 ^ (w - l) ≡ 2 ^ w
whole_is w l h =
    let e : l + (w - l) ≡ w = omega arith in
    sym (pow-add 2 l (w - l)) ∙ ap (λ k. 2 ^ k) e

-- the last address of a prefix is an address
pub end_fits : (p : Prefix) → IsPrefix p → p.first + size_of p ≤ 2 ^ width_of p.family
end_fits p h =
    let s : ℕ = 2 ^ (width_of p.family - p.len) in
    let m : ℕ = 2 ^ p.len in
    let n = h.aligned.0 in
    let whole : m * s ≡ 2 ^ width_of p.family = whole_is (width_of p.family) p.len h.len_fits in
    let starts : n * s < m * s = omega (arith, h.first_fits, h.aligned.1, whole) in
    omega (arith, block_fits n m s starts, h.aligned.1, whole)

-- no address of a family is wider than those of IPv6
pub widest : (f : Family) → 2 ^ width_of f ≤ 2 ^ 128
widest f = pow-le-pow_right {n = 2} (omega arith) {i = width_of f} {j = 128} (width-le f)

-- the first address of a prefix of a family is one of the family
pub first_fits : (f : Family) (p : Prefix) → IsPrefixOf f p → p.first < 2 ^ width_of f
first_fits f p h = let P : Family → Type 0 = λ g. p.first < 2 ^ width_of g in subst P h.0 h.1.first_fits

-- the bits behind the length of an IPv4 prefix make an address
pub mask_fits : (len : ℕ) → 2 ^ (32 - len) - 1 < 2 ^ 32
mask_fits len =
    let h = pow-le-pow_right {n = 2} (omega arith) {i = 32 - len} {j = 32} (omega arith) in
    omega (arith, h)

-- all addresses of a family are those of one prefix
pub everywhere_is : (f : Family) → IsPrefixOf f (everywhere f)
everywhere_is V4 = (refl, record { len_fits = lit≤ tt; first_fits = lit< tt; aligned = (0, refl) })
everywhere_is V6 = (refl, record { len_fits = lit≤ tt; first_fits = lit< tt; aligned = (0, refl) })
