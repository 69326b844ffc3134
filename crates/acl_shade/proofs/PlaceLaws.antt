-- The first of the earlier terms of a block that shades one: its place, or that there is none.
use Rattle.std.proofs.Common.{◌≡◌, ℕ, ◌<◌, Bool, true, false, List, Option, None, Some, length, take, get_or, inl, inr, ap, sym, ◌∙◌, subst, arith}
use Rattle.std.specs.Prelude.{IfNone, IfSome, IsSomeAnd, cond, nat_lt, slice_get}
use Rattle.std.specs.List.{position, position_or_len}
use Rattle.std.specs.Option.{option_and_then}
use Rattle.std.proofs.lemmas.Bool.{both_ways, cases_Bool, ltb-false}
use Rattle.std.proofs.lemmas.List.{get_or-take, length-take-le}
use Rattle.std.proofs.lemmas.List.Quantifiers.{position-Some}
use Rattle.std.proofs.lemmas.List.Sums.{fails_before_first}
use Rattle.std.proofs.lemmas.Option.{none-some, slice_get-get_or}
use Rattle.acl_host.specs.declared.days.Day.{Day}
use Rattle.acl_target.specs.declared.targets.Target.{Target}
use Rattle.acl_terms.specs.declared.terms.Term.{Term}
use Rattle.acl_shade.specs.ComputableShading.{shaded_by, shades}
use Rattle.acl_shade.specs.Shading.{IsShadedBy, Shades, ShadesAt}
use Rattle.acl_shade.proofs.ShadingLaws.{shading-law}

-- ---- places

-- where nothing passes there is no place, and what is not the place of a pass fails
pub fails-where-none : {X : Type 0} (p : X → Bool) (xs : List X) (k : ℕ) (d : X) → position p xs ≡ None
    → k < length xs → p (get_or xs k d) ≡ false
fails-where-none p xs k d e h = elim (cases_Bool (nat_lt (position_or_len p xs) (length xs))) [
  | inl passed ↦ absurd (none-some (position_or_len p xs) (sym e
      ∙ ap (λ t. cond t (Some (position_or_len p xs)) None) passed))
  | inr fails ↦ let past = ltb-false (position_or_len p xs) (length xs) fails in
      fails_before_first p xs k d (omega arith)
]

-- ---- two terms of a block

module _ (targets : List Target) (today : Day) (terms : List Term) (place : ℕ) (d : Term)
    (within : place < length terms) where
  at-places : (k : ℕ) → k < place → Shades targets today (get_or terms k d) (get_or terms place d)
      → ShadesAt targets today terms k place
  at-places k before s = record {
    earlier = before;
    terms_are = subst (λ o. IsSomeAnd o (λ i. IsSomeAnd (slice_get terms place) (Shades targets today i)))
        (sym (slice_get-get_or terms k d (omega arith)))
        (subst (λ o. IsSomeAnd o (Shades targets today (get_or terms k d)))
        (sym (slice_get-get_or terms place d within)) s);
  }

  pub of-places : (k : ℕ) → ShadesAt targets today terms k place
      → Shades targets today (get_or terms k d) (get_or terms place d)
  of-places k s =
      let before = s.earlier in
      subst (λ o. IsSomeAnd o (Shades targets today (get_or terms k d))) (slice_get-get_or terms place d within)
      (subst (λ o. IsSomeAnd o (λ i. IsSomeAnd (slice_get terms place) (Shades targets today i)))
      (slice_get-get_or terms k d (omega arith)) s.terms_are)

  abbrev pub test : Term → Bool
  test i = shades targets today i (get_or terms place d)

  found : (k : ℕ) → position test (take place terms) ≡ Some k → IsShadedBy targets today terms place k
  found k e =
      let s = position-Some test (take place terms) k d e in
      let n = length-take-le place terms (omega arith) in
      let first : k < length (take place terms) = s.0 in
      let before : k < place = omega arith in
      record {
        shades = at-places k before ((shading-law targets today (get_or terms k d) (get_or terms place d)).0
            (subst (λ t. test t ≡ true) (get_or-take place terms k d before) s.1));
        first = λ o lower w. both_ways (test (get_or terms o d))
            (subst (λ t. test t ≡ false) (get_or-take place terms o d (omega arith)) (s.2 o lower))
            ((shading-law targets today (get_or terms o d) (get_or terms place d)).1 (of-places o w));
      }

  not-found : position test (take place terms) ≡ None → (k : ℕ) → ShadesAt targets today terms k place → ⊥
  not-found e k w =
      let n = length-take-le place terms (omega arith) in
      let before = w.earlier in
      both_ways (test (get_or terms k d))
      (subst (λ t. test t ≡ false) (get_or-take place terms k d before)
      (fails-where-none test (take place terms) k d e (omega arith)))
      ((shading-law targets today (get_or terms k d) (get_or terms place d)).1 (of-places k w))

  pub place-some : (r : Option ℕ) → r ≡ position test (take place terms)
      → IfSome r (λ k. IsShadedBy targets today terms place k)
  place-some None e = tt
  place-some (Some k) e = found k (sym e)

  pub place-none : (r : Option ℕ) → r ≡ position test (take place terms)
      → IfNone r ((k : ℕ) → ShadesAt targets today terms k place → ⊥)
  place-none None e = not-found (sym e)
  place-none (Some k) e = tt

  pub place-is : (r : Option ℕ) → r ≡ position test (take place terms) → r ≡ shaded_by targets today terms place
  place-is r e = e
      ∙ sym (ap (λ o. option_and_then (λ j. position (λ i. shades targets today i j) (take place terms)) o)
      (slice_get-get_or terms place d within))
