-- The group that is computed is the longest within the weight.
use Rattle.std.proofs.Common.{◌≡◌, ◌==◌, Bool, true, false, if◌then◌else◌, ℕ, zero, suc, ◌+◌, ◌-◌, ◌<◌, ◌≤◌, List, [], ◌∷◌, length, take, drop, slice_index_or, refl, inl, inr, ap, sym, subst, ◌∙◌, arith}
use Rattle.std.proofs.lemmas.Bool.{cases_lt, lt-leb, le-leb}
use Rattle.std.proofs.lemmas.List.{length-drop, at_drop_more}
use Rattle.acl_sets.specs.declared.sets.Range.{Range}
use Rattle.acl_sets.specs.Groups.{weight_of, weight, IsGroupEnd, group_length}

group-within : (most : ℕ) (rs : List Range) → group_length most rs ≤ length rs
group-within most [] = omega arith
group-within most (r ∷ rs) = elim (cases_lt most (weight_of r)) [
  | inl h ↦ rw (lt-leb (weight_of r) most h) (omega arith)
  | inr h ↦ rw (le-leb (weight_of r) most h)
      (let k = group-within (most - weight_of r) rs in omega (arith, k))
]

group-fits : (most : ℕ) (rs : List Range) → weight (take (group_length most rs) rs) ≤ most
group-fits most [] = omega arith
group-fits most (r ∷ rs) = elim (cases_lt most (weight_of r)) [
  | inl h ↦ rw (lt-leb (weight_of r) most h) (omega arith)
  | inr h ↦ rw (le-leb (weight_of r) most h)
      (let k = group-fits (most - weight_of r) rs in omega (arith, k, h))
]

group-greatest : (most : ℕ) (rs : List Range) (n : ℕ) → n ≤ length rs → weight (take n rs) ≤ most
    → n ≤ group_length most rs
group-greatest most [] n l h = omega arith
group-greatest most (r ∷ rs) zero l h = omega arith
group-greatest most (r ∷ rs) (suc n) l h = elim (cases_lt most (weight_of r)) [
  | inl k ↦ absurd (omega (arith, h, k))
  | inr k ↦ rw (le-leb (weight_of r) most k)
      (let i = group-greatest (most - weight_of r) rs n (omega arith) (omega (arith, h)) in omega (arith, i))
]

pub group_end-is : (rs : List Range) (from most end : ℕ) → from ≤ length rs
    → end ≡ from + group_length most (drop from rs) → IsGroupEnd rs from most end
group_end-is rs from most end l e =
    let rest : List Range = drop from rs in
    let n : end - from ≡ group_length most rest = omega (arith, e) in
    record {
      behind = omega (arith, e);
      within = omega (arith, e, group-within most rest, length-drop from rs);
      fits = let P : ℕ → Type 0 = λ z. weight (take z rest) ≤ most in
          subst P (sym n) (group-fits most rest);
      greatest = λ other b w h.
          let k = group-greatest most rest (other - from) (omega (arith, length-drop from rs, w)) h in
          omega (arith, k, e, b);
    }

-- The ranges from a position on, as the range there weighs more than is left, or not.
from_here : (rs : List Range) (left end : ℕ) (r : Range) → end < length rs
    → ((d : Range) → r ≡ slice_index_or rs end d)
    → group_length left (drop end rs) ≡ group_length left (r ∷ drop (end + 1) rs)
from_here rs left end r l is =
    at_drop_more (λ z. group_length left z) rs end r l
    ∙ ap (λ q. group_length left (q ∷ drop (end + 1) rs)) (sym (is r))

pub heavy : (rs : List Range) (left end : ℕ) (r : Range) → end < length rs
    → ((d : Range) → r ≡ slice_index_or rs end d) → left < weight_of r
    → group_length left (drop end rs) ≡ 0
heavy rs left end r l is h =
    from_here rs left end r l is ∙ (rw (lt-leb (weight_of r) left h) refl)

pub light : (rs : List Range) (left end : ℕ) (r : Range) → end < length rs
    → ((d : Range) → r ≡ slice_index_or rs end d) → weight_of r ≤ left
    → group_length left (drop end rs) ≡ suc (group_length (left - weight_of r) (drop (end + 1) rs))
light rs left end r l is h =
    from_here rs left end r l is ∙ (rw (le-leb (weight_of r) left h) refl)

light_weight : (b : Bool) → (if b then 1 else 2) ≤ 2
light_weight true = omega arith
light_weight false = omega arith

-- A list with a range has a group of one at least, as none weighs more than two.
pub group-some : (rs : List Range) (most : ℕ) → 2 ≤ most → 0 < length rs → 0 < group_length most rs
group-some [] most two some = absurd (omega (arith, some))
group-some (r ∷ rs) most two some = rw (le-leb (weight_of r) most
    (omega (arith, two, light_weight (r.low == r.high)))) (omega arith)
