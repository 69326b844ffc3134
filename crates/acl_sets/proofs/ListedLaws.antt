-- What the least list of ranges says of them.
use Rattle.std.proofs.Common.{◌≡◌, ℕ, ◌+◌, ◌-◌, ◌^◌, ◌<◌, ◌≤◌, Bool, true, false, ◌&&◌, ◌==◌, nat_le, List, [], ◌∷◌, inl, inr, ◌⊎◌, refl, ap, sym, subst, ◌∙◌, arith}
use Rattle.std.proofs.lemmas.Nat.{pow_pos}
use Rattle.std.proofs.lemmas.Bool.{and_from, and_parts, both_ways, eq-eqb, eqb-true, false_from_ne_true, le-leb, leb-true, or_cases, or_left}
use Rattle.std.proofs.lemmas.List.Elements.{recursion_from_All}
use Rattle.std.specs.List.{AllByRecursion, list_any}
use Rattle.acl_packet.specs.declared.addresses.Family.{Family}
use Rattle.acl_packet.specs.declared.addresses.Family.TheVariants.{V4, V6}
use Rattle.acl_packet.specs.declared.addresses.Prefix.{Prefix}
use Rattle.acl_packet.specs.Addresses.{IsPrefixOf, everywhere, size_of, top_address, width_of}
use Rattle.acl_packet.specs.AddressLists.{any_has}
use Rattle.acl_sets.specs.declared.sets.Range.{Range}
use Rattle.acl_sets.specs.Ranges.{IsNormal, holds}
use Rattle.acl_sets.specs.LeastLists.{IsMaximal}
use Rattle.acl_sets.specs.ComputableSets.{covers}
use Rattle.acl_sets.specs.ComputableLeastLists.{halved_space}
use Rattle.acl_sets.specs.CutSteps.{is_whole}
use Rattle.acl_sets.proofs.RangeLaws.{at_floor, first-holds, one_list}
use Rattle.acl_sets.proofs.ComputableSetLaws.{covers-holds, holds-covers}
use Rattle.acl_sets.proofs.BlockFacts.{has, within_space}
use Rattle.acl_sets.proofs.HalvesFacts.{step_whole}
use Rattle.acl_sets.proofs.LeastListLaws.{least_list-holds, least_list-prefixes, normal-addresses}
use Rattle.acl_sets.proofs.ComputableLeastListLaws.{halved_space-least}
use Rattle.acl_sets.proofs.CutWalks.{none_left}

space_end : (f : Family) → top_address f + 1 ≡ 2 ^ width_of f
space_end f = omega (arith, pow_pos (width_of f))

-- The list has the addresses of the ranges.
pub listed_holds : (f : Family) (rs : List Range) (a : ℕ) → IsNormal 0 (top_address f) rs
    → any_has (halved_space f rs) a ≡ holds rs a
listed_holds f rs a n =
    least_list-holds f (λ x. holds rs x) (halved_space f rs)
    (normal-addresses f (top_address f) rs n (space_end f)) (halved_space-least f (top_address f) rs n) a

-- A prefix of length 0

-- a list of maximal prefixes with one of length 0 is of a set that has all addresses
wide : (f : Family) (set : ℕ → Bool) (ps : List Prefix) → AllByRecursion (λ p. IsMaximal f set p) ps
    → list_any (λ (p : Prefix). p.len == 0) ps ≡ true → (x : ℕ) → x < 2 ^ width_of f → set x ≡ true
wide f set [] m h x l = absurd (both_ways false refl h)
wide f set (p ∷ ps) m h x l = elim (or_cases (p.len == 0) (list_any (λ (q : Prefix). q.len == 0) ps) h) [
  | inl e ↦
      let free : width_of p.family - p.len ≡ width_of f = omega (arith, eqb-true p.len 0 e, ap width_of m.0.form.0) in
      let size : size_of p ≡ 2 ^ width_of f = ap (λ k. 2 ^ k) free in
      let first : p.first ≡ 0 = omega (arith, size, within_space f p m.0.form) in
      m.0.lies x (has p x (omega (arith, first)) (omega (arith, first, size, l)))
  | inr e ↦ wide f set ps m.1 e x l
]

whole-list : (f : Family) (rs : List Range) → covers rs 0 (top_address f) ≡ true → halved_space f rs ≡ everywhere f ∷ []
whole-list V4 rs h = step_whole V4 rs 32 0 h
whole-list V6 rs h = step_whole V6 rs 128 0 h

-- ranges in order that have all addresses are one
covered-whole : (f : Family) (rs : List Range) → IsNormal 0 (top_address f) rs → covers rs 0 (top_address f) ≡ true
    → is_whole f rs ≡ true
covered-whole f [] n h = absurd (both_ways false refl h)
covered-whole f (r ∷ rs) n h =
    elim (or_cases (nat_le r.low 0 && nat_le (top_address f) r.high) (covers rs 0 (top_address f)) h) [
      | inl e ↦
          let p = and_parts (nat_le r.low 0) (nat_le (top_address f) r.high) e in
          let low : r.low ≡ 0 = omega (arith, leb-true r.low 0 p.0) in
          let high : r.high ≡ top_address f = omega (arith, leb-true (top_address f) r.high p.1, n.2) in
          and_from (r.low == 0) (r.high == top_address f) (eq-eqb r.low 0 low) (eq-eqb r.high (top_address f) high)
      | inr e ↦
          let here = covers-holds rs 0 (top_address f) 0 e (omega arith) (omega arith) in
          absurd (omega (arith, at_floor (r.high + 2) (top_address f) rs 0 n.3 here))
    ]

whole-covered : (f : Family) (rs : List Range) → is_whole f rs ≡ true → covers rs 0 (top_address f) ≡ true
whole-covered f [] h = absurd (both_ways false refl h)
whole-covered f (r ∷ rs) h =
    let p = and_parts (r.low == 0) (r.high == top_address f) h in
    let low : r.low ≡ 0 = eqb-true r.low 0 p.0 in
    let high : r.high ≡ top_address f = eqb-true r.high (top_address f) p.1 in
    or_left (nat_le r.low 0 && nat_le (top_address f) r.high) (covers rs 0 (top_address f))
    (and_from (nat_le r.low 0) (nat_le (top_address f) r.high) (le-leb r.low 0 (omega (arith, low)))
    (le-leb (top_address f) r.high (omega (arith, high))))

-- The list has a prefix of length 0 where its ranges are all addresses.
pub whole_listed : (f : Family) (rs : List Range) → IsNormal 0 (top_address f) rs
    → is_whole f rs ≡ list_any (λ (p : Prefix). p.len == 0) (halved_space f rs)
whole_listed f rs n = by_whole (is_whole f rs) refl
  where
    by_whole : (b : Bool) → is_whole f rs ≡ b → is_whole f rs ≡ list_any (λ (p : Prefix). p.len == 0) (halved_space f rs)
    by_whole true e =
        e ∙ sym (ap (λ (ps : List Prefix). list_any (λ (p : Prefix). p.len == 0) ps) (whole-list f rs (whole-covered f rs e)))
    by_whole false e =
        let least = halved_space-least f (top_address f) rs n in
        let maximal = recursion_from_All (λ (p : Prefix). IsMaximal f (λ a. holds rs a) p) (halved_space f rs) least.maximal in
        e ∙ sym (false_from_ne_true (list_any (λ (p : Prefix). p.len == 0) (halved_space f rs)) (λ h.
        both_ways (is_whole f rs) e (covered-whole f rs n
        (holds-covers 0 (top_address f) rs 0 (top_address f) n (omega arith) (λ x low high.
        wide f (λ a. holds rs a) (halved_space f rs) maximal h x (omega (arith, high, pow_pos (width_of f))))))))

-- Lists that are the same

raised : (floor top most : ℕ) (rs : List Range) → top ≤ most → IsNormal floor top rs → IsNormal floor most rs
raised floor top most [] l n = tt
raised floor top most (r ∷ rs) l n = (n.0, n.1, omega (arith, n.2, l), raised (r.high + 2) top most rs l n.3)

same-ranges : (f g : Family) (rs qs : List Range) → IsNormal 0 (top_address f) rs → IsNormal 0 (top_address g) qs
    → halved_space f rs ≡ halved_space g qs → rs ≡ qs
same-ranges f g rs qs n m e =
    let most = top_address f + top_address g in
    one_list 0 0 most rs qs (raised 0 (top_address f) most rs (omega arith) n) (raised 0 (top_address g) most qs (omega arith) m)
    (λ x. sym (listed_holds f rs x n) ∙ ap (λ (ps : List Prefix). any_has ps x) e ∙ listed_holds g qs x m)

-- a list that has an address is of one family
one-family : (f g : Family) (ps : List Prefix) (a : ℕ) → AllByRecursion (λ p. IsPrefixOf f p) ps
    → AllByRecursion (λ p. IsPrefixOf g p) ps → any_has ps a ≡ true → f ≡ g
one-family f g [] a h k e = absurd (both_ways false refl e)
one-family f g (p ∷ ps) a h k e = sym h.0.0 ∙ k.0.0

forms : (f : Family) (rs : List Range) → IsNormal 0 (top_address f) rs
    → AllByRecursion (λ p. IsPrefixOf f p) (halved_space f rs)
forms f rs n =
    recursion_from_All (λ (p : Prefix). IsPrefixOf f p) (halved_space f rs)
    (least_list-prefixes f (λ a. holds rs a) (halved_space f rs) (halved_space-least f (top_address f) rs n))

same-family : (f g : Family) (rs qs : List Range) → IsNormal 0 (top_address f) rs → IsNormal 0 (top_address g) qs
    → halved_space f rs ≡ halved_space g qs → (f ≡ g) ⊎ (rs ≡ [])
same-family f g [] qs n m e = inr refl
same-family f g (r ∷ rs) qs n m e =
    let P : List Prefix → Type 0 = λ ps. AllByRecursion (λ p. IsPrefixOf g p) ps in
    inl (one-family f g (halved_space f (r ∷ rs)) r.low (forms f (r ∷ rs) n) (subst P (sym e) (forms g qs m))
    (listed_holds f (r ∷ rs) r.low n ∙ first-holds 0 (top_address f) r rs n))

-- The same ranges of the same family, or none, have the same list, and no others have.
pub same_listed : (f g : Family) (rs qs : List Range) → IsNormal 0 (top_address f) rs → IsNormal 0 (top_address g) qs
    → halved_space f rs ≡ halved_space g qs → (rs ≡ qs) × ((f ≡ g) ⊎ (rs ≡ []))
same_listed f g rs qs n m e = (same-ranges f g rs qs n m e, same-family f g rs qs n m e)

pub listed_same : (f g : Family) (rs qs : List Range) → (rs ≡ qs) × ((f ≡ g) ⊎ (rs ≡ []))
    → halved_space f rs ≡ halved_space g qs
listed_same f g rs qs h = by_family h.1
  where
    by_family : (f ≡ g) ⊎ (rs ≡ []) → halved_space f rs ≡ halved_space g qs
    by_family (inl d) = ap (halved_space f) h.0 ∙ ap (λ k. halved_space k qs) d
    by_family (inr d) =
        ap (halved_space f) d ∙ none_left f ∙ sym (none_left g) ∙ ap (halved_space g) (sym d ∙ h.0)

-- The same of lists that are known to be those of ranges.
pub alike_lists : (f g : Family) (rs qs xs ys : List Range) (ps os : List Prefix) → IsNormal 0 (top_address f) rs
    → IsNormal 0 (top_address g) qs → xs ≡ rs → ys ≡ qs → halved_space f rs ≡ ps → halved_space g qs ≡ os
    → ((xs ≡ ys) × ((f ≡ g) ⊎ (xs ≡ [])) → ps ≡ os) × (ps ≡ os → (xs ≡ ys) × ((f ≡ g) ⊎ (xs ≡ [])))
alike_lists f g rs qs xs ys ps os n m x y p o =
    let A : List Range → List Range → Type 0 = λ a b. (a ≡ b) × ((f ≡ g) ⊎ (a ≡ [])) in
    let B : List Range → Type 0 = λ a. A a ys in
    let C : List Range → Type 0 = λ b. A rs b in (
      λ h. sym p ∙ listed_same f g rs qs (subst C y (subst B x h)) ∙ o,
      λ e. subst B (sym x) (subst C (sym y) (same_listed f g rs qs n m (p ∙ e ∙ sym o))),
    )
