-- The least list of a range that is one block is the prefix of the block.
use Rattle.std.proofs.Common.{◌≡◌, ℕ, zero, suc, ◌+◌, ◌-◌, ◌*◌, ◌^◌, ◌<◌, ◌≤◌, ◌⊎◌, Bool, true, false, ◌&&◌, ◌||◌, nat_le, nat_lt, List, [], ◌∷◌, ◌++◌, inl, inr, refl, ap, sym, subst, ◌∙◌, arith}
use Rattle.std.proofs.Math.Nat.{mul-add, mul-le-mul_left, mul-suc, mul-zero, two-pow-succ}
use Rattle.std.proofs.lemmas.Bool.Decides.{nat_tests}
use Rattle.std.proofs.lemmas.Nat.{pow-add, pow_pos}
use Rattle.acl_packet.specs.declared.addresses.Family.{Family}
use Rattle.acl_sets.specs.declared.sets.Range.{Range}
use Rattle.acl_sets.specs.ComputableSets.{covers, meets}
use Rattle.acl_sets.specs.ComputableLeastLists.{block, halves, last_of}
use Rattle.acl_sets.proofs.HalvesFacts.{step_none, step_whole}
use Rattle.aclgen_core.specs.WorkloadTerms.{range}

-- A block of 2 ^ k addresses as a range.
abbrev pub block_range : ℕ → ℕ → List Range
block_range k low = range low (low + (2 ^ k - 1)) ∷ []

is_most : (n m : ℕ) → n ≤ m → nat_le n m ≡ true
is_most n m h = grind (arith, nat_tests)

is_more : (n m : ℕ) → m < n → nat_le n m ≡ false
is_more n m h = grind (arith, nat_tests)

both : (b c : Bool) → b ≡ true → c ≡ true → ((b && c) || false) ≡ true
both b c h k = ap (λ x. (x && c) || false) h ∙ ap (λ x. x || false) k

neither : (b c : Bool) → (b ≡ false) ⊎ (c ≡ false) → ((b && c) || false) ≡ false
neither b c (inl h) = ap (λ x. (x && c) || false) h
neither true c (inr h) = ap (λ x. x || false) h
neither false c (inr h) = refl

side : (m v : ℕ) → (m < v) ⊎ (v ≤ m)
side m v = go (nat_lt m v) refl
  where
    less : nat_lt m v ≡ true → m < v
    less h = grind (arith, nat_tests)

    more : nat_lt m v ≡ false → v ≤ m
    more h = grind (arith, nat_tests)

    go : (b : Bool) → nat_lt m v ≡ b → (m < v) ⊎ (v ≤ m)
    go true e = inl (less e)
    go false e = inr (more e)

step_split : (f : Family) (rs : List Range) (k a : ℕ) → covers rs a (last_of (suc k) a) ≡ false → meets rs a (last_of (suc k) a) ≡ true
    → halves f rs (suc k) a ≡ halves f rs k a ++ halves f rs k (a + 2 ^ k)
unfolding halves
step_split f rs k a e m = rw (e, m) refl

-- a block behind another, or before it, is met by no range of the other
apart : (f : Family) (k low j a : ℕ) → ((low + (2 ^ k - 1) < a) ⊎ (a + (2 ^ j - 1) < low)) → halves f (block_range k low) j a ≡ []
apart f k low j a (inl h) =
    step_none f (block_range k low) j a
    (neither (nat_le low a) (nat_le (last_of j a) (low + (2 ^ k - 1))) (inr (is_more (last_of j a) (low + (2 ^ k - 1)) (omega (arith, h)))))
    (neither (nat_le low (last_of j a)) (nat_le a (low + (2 ^ k - 1))) (inr (is_more a (low + (2 ^ k - 1)) h)))
apart f k low j a (inr h) =
    step_none f (block_range k low) j a
    (neither (nat_le low a) (nat_le (last_of j a) (low + (2 ^ k - 1))) (inl (is_more low a (omega (arith, h)))))
    (neither (nat_le low (last_of j a)) (nat_le a (low + (2 ^ k - 1))) (inl (is_more low (last_of j a) h)))

here : (f : Family) (k a low : ℕ) → low ≡ a → halves f (block_range k low) k a ≡ block f k low ∷ []
here f k a low e =
    step_whole f (block_range k low) k a
    (both (nat_le low a) (nat_le (last_of k a) (low + (2 ^ k - 1))) (is_most low a (omega (arith, e))) (is_most (last_of k a) (low + (2 ^ k - 1)) (omega (arith, e))))
    ∙ ap (λ x. block f k x ∷ []) (sym e)

pub descend : (f : Family) (k d a low m : ℕ) → low ≡ a + 2 ^ k * m → m < 2 ^ d → halves f (block_range k low) (k + d) a ≡ block f k low ∷ []
descend f k zero a low zero e below =
    let same : k ≡ k + 0 = omega arith in
    let start : low ≡ a = omega (arith, e, mul-zero (2 ^ k)) in
    subst (λ j. halves f (block_range k low) j a ≡ block f k low ∷ []) same (here f k a low start)
descend f k zero a low (suc m) e below = absurd (omega (arith, below))
descend f k (suc d) a low m e below =
    let depth : suc (k + d) ≡ k + suc d = omega arith in
    let width = pow-add 2 k d in
    let twice = two-pow-succ (k + d) in
    let halved = two-pow-succ d in
    let room : 2 ^ k * suc m ≤ 2 ^ k * (2 ^ d + 2 ^ d) = mul-le-mul_left (2 ^ k) (omega (arith, below, halved)) in
    let ends : low + 2 ^ k ≤ a + 2 ^ suc (k + d) =
    omega (arith, e, room, twice, width, mul-suc (2 ^ k) m, mul-add (2 ^ k) (2 ^ d) (2 ^ d)) in
    let split = step_split f (block_range k low) (k + d) a (not_whole m e) (both (nat_le low (last_of (suc (k + d)) a)) (nat_le a (low + (2 ^ k - 1)))
    (is_most low (last_of (suc (k + d)) a) (omega (arith, ends, pow_pos k))) (is_most a (low + (2 ^ k - 1)) (omega (arith, e)))) in
    subst (λ j. halves f (block_range k low) j a ≡ block f k low ∷ []) depth (split ∙ by_side (λ b l n h j. descend f k d b l n h j) width (side m (2 ^ d)))
  where
    not_whole : (m : ℕ) → low ≡ a + 2 ^ k * m → covers (block_range k low) a (last_of (suc (k + d)) a) ≡ false
    not_whole zero e = neither (nat_le low a) (nat_le (last_of (suc (k + d)) a) (low + (2 ^ k - 1)))
        (inr (is_more (last_of (suc (k + d)) a) (low + (2 ^ k - 1))
        (omega (arith, e, mul-zero (2 ^ k), two-pow-succ (k + d), pow-add 2 k d, mul-le-mul_left (2 ^ k) (pow_pos d), mul-suc (2 ^ k) 0, pow_pos k, pow_pos (k + d)))))
    not_whole (suc m) e = neither (nat_le low a) (nat_le (last_of (suc (k + d)) a) (low + (2 ^ k - 1)))
        (inl (is_more low a (omega (arith, e, mul-suc (2 ^ k) m, pow_pos k))))

    by_side : ((b l n : ℕ) → l ≡ b + 2 ^ k * n → n < 2 ^ d → halves f (block_range k l) (k + d) b ≡ block f k l ∷ []) → 2 ^ (k + d) ≡ 2 ^ k * 2 ^ d → (m < 2 ^ d) ⊎ (2 ^ d ≤ m)
        → halves f (block_range k low) (k + d) a ++ halves f (block_range k low) (k + d) (a + 2 ^ (k + d)) ≡ block f k low ∷ []
    by_side within width (inl first) =
        let before : 2 ^ k * suc m ≤ 2 ^ k * 2 ^ d = mul-le-mul_left (2 ^ k) first in
        ap (λ ps. ps ++ halves f (block_range k low) (k + d) (a + 2 ^ (k + d))) (within a low m e first)
        ∙ ap (λ ps. block f k low ∷ ps) (apart f k low (k + d) (a + 2 ^ (k + d)) (inl (omega (arith, e, before, width, mul-suc (2 ^ k) m, pow_pos k))))
    by_side within width (inr second) =
        let rest : m ≡ 2 ^ d + (m - 2 ^ d) = omega (arith, second) in
        let spread : 2 ^ k * m ≡ 2 ^ k * 2 ^ d + 2 ^ k * (m - 2 ^ d) = ap (λ x. 2 ^ k * x) rest ∙ mul-add (2 ^ k) (2 ^ d) (m - 2 ^ d) in
        ap (λ ps. ps ++ halves f (block_range k low) (k + d) (a + 2 ^ (k + d)))
        (apart f k low (k + d) a (inr (omega (arith, e, spread, width, pow_pos (k + d)))))
        ∙ within (a + 2 ^ (k + d)) low (m - 2 ^ d) (omega (arith, e, spread, width)) (omega (arith, below, two-pow-succ d, second))
