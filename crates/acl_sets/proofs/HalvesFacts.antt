-- The list that halving gives of a set as ranges is the least list.
use Rattle.std.proofs.Common.{◌≡◌, ℕ, zero, suc, ◌+◌, ◌^◌, ◌<◌, ◌≤◌, true, false, List, [], ◌∷◌, ◌++◌, inl, inr, refl, ap, sym, subst, ◌∙◌, arith}
use Rattle.std.proofs.lemmas.Nat.{pow_pos}
use Rattle.std.proofs.lemmas.Bool.{cases_Bool, both_ways, false_from_ne_true}
use Rattle.acl_packet.specs.declared.addresses.Family.{Family}
use Rattle.acl_packet.specs.declared.addresses.Prefix.{Prefix}
use Rattle.acl_sets.specs.declared.sets.Range.{Range}
use Rattle.acl_sets.specs.Ranges.{holds, IsNormal}
use Rattle.acl_packet.specs.Addresses.{width_of}
use Rattle.acl_sets.specs.LeastLists.{IsLeastList}
use Rattle.acl_sets.specs.ComputableSets.{covers, meets}
use Rattle.acl_sets.specs.ComputableLeastLists.{block, last_of, halves}
use Rattle.acl_sets.proofs.ComputableSetLaws.{covers-holds, holds-covers, misses-holds}
use Rattle.acl_sets.proofs.BlockFacts.{LiesBlock}
use Rattle.acl_sets.proofs.HalvedSets.{halved, halved-whole, halved-split, halved-none, halved-least}

-- The steps

pub step_whole : (f : Family) (rs : List Range) (k a : ℕ) → covers rs a (last_of k a) ≡ true
    → halves f rs k a ≡ block f k a ∷ []
unfolding halves
step_whole f rs zero a e = rw e refl
step_whole f rs (suc k) a e = rw e refl

pub step_point : (f : Family) (rs : List Range) (k a : ℕ) → k ≡ 0
    → covers rs a (last_of k a) ≡ false → halves f rs k a ≡ []
unfolding halves
step_point f rs zero a h e = rw e refl
step_point f rs (suc k) a h e = absurd (omega arith)

pub step_none : (f : Family) (rs : List Range) (k a : ℕ) → covers rs a (last_of k a) ≡ false
    → meets rs a (last_of k a) ≡ false → halves f rs k a ≡ []
unfolding halves
step_none f rs zero a e m = rw e refl
step_none f rs (suc k) a e m = rw (e, m) refl

-- The cases of a block

in_last : (k a x : ℕ) → x < a + 2 ^ k → x ≤ last_of k a
in_last k a x h = omega (arith, h, pow_pos k)

past_last : (k a x : ℕ) → x ≤ last_of k a → x < a + 2 ^ k
past_last k a x h = omega (arith, h, pow_pos k)

first_last : (k a : ℕ) → a ≤ last_of k a
first_last k a = omega arith

covered : (rs : List Range) (k a : ℕ) → covers rs a (last_of k a) ≡ true
    → LiesBlock (λ x. holds rs x) a (2 ^ k)
covered rs k a e = λ x h l. covers-holds rs a (last_of k a) x e h (in_last k a x l)

not_covered : (top : ℕ) (rs : List Range) (k a : ℕ) → IsNormal 0 top rs
    → covers rs a (last_of k a) ≡ false → LiesBlock (λ x. holds rs x) a (2 ^ k) → ⊥
not_covered top rs k a n e h =
    both_ways (covers rs a (last_of k a)) e (holds-covers 0 top rs a (last_of k a) n
    (first_last k a) (λ x p q. h x p (past_last k a x q)))

missed : (rs : List Range) (k a : ℕ) → meets rs a (last_of k a) ≡ false → (x : ℕ) → a ≤ x
    → x < a + 2 ^ k → holds rs x ≡ false
missed rs k a e = λ x h l. misses-holds rs a (last_of k a) x e h (in_last k a x l)

-- one address is in the set or not
point_missed : (top : ℕ) (rs : List Range) (a : ℕ) → IsNormal 0 top rs
    → covers rs a (last_of zero a) ≡ false → (x : ℕ) → a ≤ x → x < a + 2 ^ zero → holds rs x ≡ false
point_missed top rs a n e = λ x h l.
    false_from_ne_true (holds rs x) (λ i. not_covered top rs zero a n e (λ y p q.
    let s : x ≡ y = omega arith in ap (λ z. holds rs z) (sym s) ∙ i))

-- The value is the list that halving gives of the set

halves-halved : (f : Family) (top : ℕ) (rs : List Range) (k a : ℕ) → IsNormal 0 top rs
    → halves f rs k a ≡ halved f (λ x. holds rs x) k a
unfolding halves
halves-halved f top rs zero a n = elim (cases_Bool (covers rs a (last_of zero a))) [
  | inl e ↦ step_whole f rs zero a e ∙ sym (halved-whole f (λ x. holds rs x) zero a
      (covered rs zero a e))
  | inr e ↦ step_point f rs zero a refl e ∙ sym (halved-none f (λ x. holds rs x) zero a
      (point_missed top rs a n e))
]
halves-halved f top rs (suc k) a n = elim (cases_Bool (covers rs a (last_of (suc k) a))) [
  | inl e ↦ step_whole f rs (suc k) a e ∙ sym (halved-whole f (λ x. holds rs x) (suc k) a
      (covered rs (suc k) a e))
  | inr e ↦ elim (cases_Bool (meets rs a (last_of (suc k) a))) [
    | inl m ↦
        let split : halves f rs (suc k) a ≡ halves f rs k a ++ halves f rs k (a + 2 ^ k) = rw
        (e, m) refl in
        split
        ∙ ap (λ (z : List Prefix). z ++ halves f rs k (a + 2 ^ k)) (halves-halved f top rs k a n)
        ∙ ap (λ (z : List Prefix). halved f (λ x. holds rs x) k a ++ z)
        (halves-halved f top rs k (a + 2 ^ k) n)
        ∙ sym (halved-split f (λ x. holds rs x) k a (not_covered top rs (suc k) a n e))
    | inr m ↦ step_none f rs (suc k) a e m ∙ sym (halved-none f (λ x. holds rs x) (suc k) a
        (missed rs (suc k) a m))
  ]
]

pub halves-least : (f : Family) (top : ℕ) (rs : List Range) → IsNormal 0 top rs
    → IsLeastList f (λ x. holds rs x) (halves f rs (width_of f) 0)
halves-least f top rs n =
    let P : List Prefix → Type 0 = λ z. IsLeastList f (λ x. holds rs x) z in
    subst P (sym (halves-halved f top rs (width_of f) 0 n)) (halved-least f (λ x. holds rs x))
