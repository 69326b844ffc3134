-- Going through the blocks of ranges: each normal list of ranges has its blocks, they are its least list, and the
-- first of them leaves the blocks of what is behind it.
use Rattle.std.proofs.Common.{◌≡◌, ℕ, zero, suc, ◌+◌, ◌-◌, ◌*◌, ◌^◌, ◌<◌, ◌≤◌, List, [], ◌∷◌, ◌++◌, length, inl, inr, refl, ap, sym, ◌∙◌, arith}
use Rattle.std.proofs.Math.Nat.{pow-le-pow_right, two-pow-succ}
use Rattle.std.proofs.lemmas.Nat.{pow_pos}
use Rattle.std.proofs.lemmas.Bool.{cases_lt}
use Rattle.acl_packet.specs.declared.addresses.Family.{Family}
use Rattle.acl_packet.specs.declared.addresses.Family.TheVariants.{V4, V6}
use Rattle.acl_packet.specs.declared.addresses.Prefix.{Prefix}
use Rattle.acl_packet.specs.Addresses.{top_address, width_of}
use Rattle.acl_sets.specs.declared.sets.Range.{Range}
use Rattle.acl_sets.specs.Ranges.{IsNormal}
use Rattle.acl_sets.specs.ComputableLeastLists.{block, halved_space}
use Rattle.acl_sets.specs.CutSteps.{IsLongest, low_end, ranges_from}
use Rattle.acl_sets.proofs.ComputableLeastListLaws.{least_list-computed}
use Rattle.acl_sets.proofs.CutFacts.{longest, power-bound}
use Rattle.acl_sets.proofs.LeastCuts.{Cuts, CutsAll, cuts-least}

-- A longest block

-- the largest power of two that is at most a number
power_within : (n : ℕ) → (m : ℕ) × (2 ^ m ≤ suc n) × (suc n < 2 * 2 ^ m)
power_within zero = (0, omega arith, omega arith)
power_within (suc n) = let h = power_within n in elim (cases_lt (suc (suc n)) (2 * 2 ^ h.0)) [
  | inl s ↦ (h.0, omega (arith, h.1), s)
  | inr s ↦ (suc h.0, omega (arith, h.2, two-pow-succ h.0), omega (arith, h.1, h.2, two-pow-succ h.0))
]

width_small : (f : Family) → width_of f ≤ 128
width_small V4 = omega arith
width_small V6 = omega arith

space_small : (f : Family) → 2 ^ width_of f ≤ 2 ^ 128
space_small f = pow-le-pow_right {n = 2} (omega arith) {i = width_of f} {j = 128} (width_small f)

longest_of : (f : Family) (first last : ℕ) → first ≤ last → last < 2 ^ width_of f
    → (free : ℕ) × IsLongest first last free
longest_of f first last l fits =
    let h = power_within (last - first) in
    let within : last < 2 ^ 128 = omega (arith, fits, space_small f) in
    let few : h.0 ≤ 128 = power-bound h.0 (last - first + 1) 128 (omega (arith, h.1)) (omega (arith, within)) in
    (_, longest 128 first last h.0 _ l (omega (arith, l, within)) (omega (arith, h.1)) (omega (arith, h.2)) few refl)

-- The blocks of a range, and of ranges

cuts_of : (f : Family) (fuel first last : ℕ) → last + 1 ≤ first + fuel → first ≤ last + 1 → last < 2 ^ width_of f
    → (ps : List Prefix) × Cuts f last first ps
cuts_of f zero first last enough l fits = ([], omega (arith, enough, l))
cuts_of f (suc fuel) first last enough l fits = elim (cases_lt last first) [
  | inl s ↦ ([], omega (arith, s, l))
  | inr s ↦
      let b = longest_of f first last s fits in
      let rest = cuts_of f fuel (first + 2 ^ b.0) last (omega (arith, enough, pow_pos b.0)) b.1.fits.1 fits in
      (block f b.0 first ∷ rest.0, (b.0, refl, b.1, rest.1))
]

all_cuts : (f : Family) (floor : ℕ) (rs : List Range) → IsNormal floor (top_address f) rs
    → (ps : List Prefix) × CutsAll f rs ps
all_cuts f floor [] n = ([], refl)
all_cuts f floor (r ∷ rs) n =
    let own = cuts_of f (r.high + 1) r.low r.high (omega arith) (omega (arith, n.1))
    (omega (arith, n.2, pow_pos (width_of f))) in
    let rest = all_cuts f (r.high + 2) rs n.3 in
    (own.0 ++ rest.0, (own.0, rest.0, refl, own.1, rest.1))

-- The blocks of normal ranges are their least list.
cuts_are : (f : Family) (rs : List Range) (ps : List Prefix) → IsNormal 0 (top_address f) rs → CutsAll f rs ps
    → ps ≡ halved_space f rs
cuts_are f rs ps n c = least_list-computed f (top_address f) rs ps n (cuts-least f rs ps n c)

-- No ranges have no blocks.
pub none_left : (f : Family) → halved_space f [] ≡ []
none_left f = sym (cuts_are f [] [] tt refl)

pub nothing_left : (f : Family) (first : ℕ) (rs : List Range) → rs ≡ [] → halved_space f (ranges_from first rs) ≡ []
nothing_left f first [] e = none_left f
nothing_left f first (r ∷ rs) e = absurd (omega (arith, ap (λ (z : List Range). length z) e))

-- The ranges behind the first block of them.

-- where it has all of the first range
pub behind_range : (f : Family) (first free : ℕ) (r : Range) (rs : List Range)
    → IsNormal 0 (top_address f) (record { low = first; high = r.high } ∷ rs)
    → IsLongest first r.high free → first + 2 ^ free ≡ r.high + 1
    → halved_space f (record { low = first; high = r.high } ∷ rs) ≡ block f free first ∷ halved_space f rs
behind_range f first free r rs n c e =
    let rest = all_cuts f (r.high + 2) rs n.3 in
    sym (cuts_are f (record { low = first; high = r.high } ∷ rs) (block f free first ∷ rest.0) n
    (block f free first ∷ [], rest.0, refl, (free, refl, c, e), rest.1))
    ∙ ap (λ (ps : List Prefix). block f free first ∷ ps) (cuts_are f rs rest.0 (lower 0 (r.high + 2) (top_address f) rs n.3) rest.1)
  where
    lower : (floor higher top : ℕ) (rs : List Range) → IsNormal higher top rs → IsNormal 0 top rs
    lower floor higher top [] n = tt
    lower floor higher top (r ∷ rs) n = (omega arith, n.1, n.2, n.3)

-- where it leaves some of it
pub behind_block : (f : Family) (first free : ℕ) (r : Range) (rs : List Range)
    → IsNormal 0 (top_address f) (record { low = first; high = r.high } ∷ rs)
    → IsLongest first r.high free → first + 2 ^ free ≤ r.high
    → halved_space f (record { low = first; high = r.high } ∷ rs)
    ≡ block f free first ∷ halved_space f (record { low = first + 2 ^ free; high = r.high } ∷ rs)
behind_block f first free r rs n c l =
    let left : List Range = record { low = first + 2 ^ free; high = r.high } ∷ rs in
    let m : IsNormal 0 (top_address f) left = (omega arith, l, n.2, n.3) in
    let rest = all_cuts f 0 left m in
    let front = cuts_are f (record { low = first; high = r.high } ∷ rs) (block f free first ∷ rest.0) n
    (block f free first ∷ rest.1.0, rest.1.1, ap (λ (ps : List Prefix). block f free first ∷ ps) rest.1.2, (free, refl, c, rest.1.3), rest.1.4) in
    sym front ∙ ap (λ (ps : List Prefix). block f free first ∷ ps) (cuts_are f left rest.0 m rest.1)

pub from_low_end : (rs : List Range) → ranges_from (low_end rs) rs ≡ rs
from_low_end [] = refl
from_low_end (r ∷ rs) = refl
