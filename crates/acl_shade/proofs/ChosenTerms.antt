-- Chosen places of a block, and the terms that are shaded there.
use Rattle.std.proofs.Common.{◌≡◌, ℕ, zero, suc, ◌+◌, ◌<◌, Bool, true, false, List, [], ◌∷◌, ◌++◌, length, take, get_or, Option, None, Some, refl, ap, sym, ◌∙◌, subst, append_assoc, arith}
use Rattle.std.specs.Prelude.{if◌then◌else◌, slice_get}
use Rattle.std.specs.List.{list_any, position}
use Rattle.std.specs.Option.{is_some, option_and_then}
use Rattle.std.proofs.Math.Seq.{get_or-append_seam, take-append_seam}
use Rattle.std.proofs.lemmas.Bool.{or_from, or_left, or_right}
use Rattle.std.proofs.lemmas.List.{get_or_append_left, length-append}
use Rattle.std.proofs.lemmas.List.Quantifiers.{position-Some}
use Rattle.std.proofs.lemmas.Option.{slice_get-get_or}
use Rattle.acl_host.specs.declared.days.Day.{Day}
use Rattle.acl_target.specs.declared.targets.Target.{Target}
use Rattle.acl_terms.specs.declared.terms.Term.{Term}
use Rattle.acl_shade.specs.ComputableShading.{is_shaded, shades, shading_term, unshaded_behind}
use Rattle.acl_shade.specs.Deletions.{AreShaded, ToldTermsGo, without_from}
use Rattle.acl_shade.specs.Shading.{Shades, ShadesAt}
use Rattle.acl_shade.proofs.PlaceLaws.{fails-where-none, of-places}
use Rattle.acl_shade.proofs.ShadingLaws.{shading-law}

-- ---- a place at which a test passes, and none

any-at : {X : Type 0} (p : X → Bool) (xs : List X) (k : ℕ) (d : X) → k < length xs → p (get_or xs k d) ≡ true
    → list_any p xs ≡ true
any-at p [] k d h e = absurd (omega (arith, h))
any-at p (x ∷ xs) zero d h e = or_left (p x) (list_any p xs) e
any-at p (x ∷ xs) (suc k) d h e = or_right (p x) (list_any p xs) (any-at p xs k d (omega (arith, h)) e)

none-any : {X : Type 0} (p : X → Bool) (xs : List X) (d : X) → ((k : ℕ) → k < length xs → p (get_or xs k d) ≡ false)
    → list_any p xs ≡ false
none-any p [] d h = refl
none-any p (x ∷ xs) d h = or_from (p x) (list_any p xs) (h 0 (omega arith)) (none-any p xs d (λ k w. h (suc k) (omega (arith, w))))

-- ---- chosen terms are shaded

-- An earlier term shades each of the terms at a chosen place, the first of which stands at this place.
abbrev pub OnlyShaded : List Target → Day → (ℕ → Bool) → ℕ → List Term → List Term → Type 0
OnlyShaded targets today chosen place earlier [] = Unit {0}
OnlyShaded targets today chosen place earlier (x ∷ xs) = (chosen place ≡ true → is_shaded targets today earlier x ≡ true)
    × OnlyShaded targets today chosen (place + 1) (earlier ++ x ∷ []) xs

one-more : {X : Type 0} (earlier : List X) (x : X) → length (earlier ++ x ∷ []) ≡ length earlier + 1
one-more earlier x = length-append earlier (x ∷ [])

within : {X : Type 0} (earlier xs : List X) (x : X) → length earlier < length (earlier ++ x ∷ xs)
within earlier xs x = let n = length-append earlier (x ∷ xs) in omega (arith, n)

module _ (targets : List Target) (today : Day) where
  shaded-here : (earlier xs : List Term) (x : Term) (k : ℕ)
      → ShadesAt targets today (earlier ++ x ∷ xs) k (length earlier) → is_shaded targets today earlier x ≡ true
  shaded-here earlier xs x k s =
      let terms = earlier ++ x ∷ xs in
      let before = s.earlier in
      let both = of-places targets today terms (length earlier) x (within earlier xs x) k s in
      let first : Shades targets today (get_or earlier k x) (get_or terms (length earlier) x) =
      subst (λ i. Shades targets today i (get_or terms (length earlier) x)) (get_or_append_left earlier (x ∷ xs) x k before) both in
      let second : Shades targets today (get_or earlier k x) x =
      subst (λ j. Shades targets today (get_or earlier k x) j) (get_or-append_seam earlier x xs x) first in
      any-at (λ i. shades targets today i x) earlier k x before ((shading-law targets today (get_or earlier k x) x).1 second)

  pub only-shaded : (terms : List Term) (chosen : ℕ → Bool) → AreShaded targets today terms chosen
      → (earlier xs : List Term) → terms ≡ earlier ++ xs → OnlyShaded targets today chosen (length earlier) earlier xs
  only-shaded terms chosen h earlier [] e = tt
  only-shaded terms chosen h earlier (x ∷ xs) e = (
    λ c.
        let s = h (length earlier) (subst (λ ts. length earlier < length ts) (sym e) (within earlier xs x)) c in
        shaded-here earlier xs x s.0 (subst (λ ts. ShadesAt targets today ts s.0 (length earlier)) e s.1),
    subst (λ n. OnlyShaded targets today chosen n (earlier ++ x ∷ []) xs) (one-more earlier x)
        (only-shaded terms chosen h (earlier ++ x ∷ []) xs (e ∙ sym (append_assoc earlier (x ∷ []) xs))),
  )

  -- ---- a shading term is told just where the term is shaded

  told-here : (earlier xs : List Term) (x : Term)
      → is_some (shading_term targets today (earlier ++ x ∷ xs) (length earlier)) ≡ is_shaded targets today earlier x
  told-here earlier xs x =
      ap (λ o. is_some (option_and_then (λ k. slice_get terms k)
      (option_and_then (λ j. position (λ i. shades targets today i j) (take (length earlier) terms)) o)))
      (slice_get-get_or terms (length earlier) x (within earlier xs x) ∙ ap Some (get_or-append_seam earlier x xs x))
      ∙ ap (λ ts. is_some (option_and_then (λ k. slice_get terms k) (position test ts))) (take-append_seam earlier (x ∷ xs))
      ∙ found (position test earlier) refl
    where
      terms : List Term
      terms = earlier ++ x ∷ xs

      test : Term → Bool
      test i = shades targets today i x

      found : (o : Option ℕ) → position test earlier ≡ o
          → is_some (option_and_then (λ k. slice_get terms k) o) ≡ list_any test earlier
      found None e = sym (none-any test earlier x (λ k w. fails-where-none test earlier k x e w))
      found (Some k) e =
          let s = position-Some test earlier k x e in
          let before = s.0 in
          let end = within earlier xs x in
          ap is_some (slice_get-get_or terms k x (omega (arith, before, end))) ∙ sym (any-at test earlier k x s.0 s.1)

  abbrev pub is_told : List Term → ℕ → Bool
  is_told terms place = is_some (shading_term targets today terms place)

  told-at : (terms earlier xs : List Term) (x : Term) → terms ≡ earlier ++ x ∷ xs
      → is_told terms (length earlier) ≡ is_shaded targets today earlier x
  told-at terms earlier xs x e = ap (λ ts. is_told ts (length earlier)) e ∙ told-here earlier xs x

  pub only-told : (terms earlier xs : List Term) → terms ≡ earlier ++ xs
      → OnlyShaded targets today (is_told terms) (length earlier) earlier xs
  only-told terms earlier [] e = tt
  only-told terms earlier (x ∷ xs) e = (
    λ c. sym (told-at terms earlier xs x e) ∙ c,
    subst (λ n. OnlyShaded targets today (is_told terms) n (earlier ++ x ∷ []) xs) (one-more earlier x)
        (only-told terms (earlier ++ x ∷ []) xs (e ∙ sym (append_assoc earlier (x ∷ []) xs))),
  )

  told-stay : (terms earlier xs : List Term) → terms ≡ earlier ++ xs
      → unshaded_behind (λ t. t) targets today earlier xs ≡ without_from (is_told terms) (length earlier) xs
  told-stay terms earlier [] e = refl
  told-stay terms earlier (x ∷ xs) e =
      ap (λ b. (if b then [] else x ∷ []) ++ unshaded_behind (λ t. t) targets today (earlier ++ x ∷ []) xs)
      (sym (told-at terms earlier xs x e))
      ∙ ap (λ ts. (if is_told terms (length earlier) then [] else x ∷ []) ++ ts)
      (told-stay terms (earlier ++ x ∷ []) xs (e ∙ sym (append_assoc earlier (x ∷ []) xs))
      ∙ ap (λ n. without_from (is_told terms) n xs) (one-more earlier x))

pub told_go : ToldTermsGo
told_go targets today terms = told-stay targets today terms [] terms refl
