-- A name's place among names in byte order.
use Rattle.std.proofs.Common.{◌≡◌, ℕ, suc, ◌+◌, ◌<◌, true, false, List, [], ◌∷◌, ◌++◌, insert, length, get_or, take, drop, map, refl, ap, sym, ◌∙◌, append_assoc, add-one, arith, IsSorted}
use Rattle.std.proofs.Math.Seq.{take-suc, drop-cons}
use Rattle.std.proofs.lemmas.List.{get_or-map, length-map, map-append, take-map, drop-map}
use Rattle.std.specs.declared.cmp.Ordering.{Ordering}
use Rattle.std.specs.Ordering.{nat_cmp, is_le}
use Rattle.std.specs.Cmp.Lexicographic.{slice_cmp}
use Rattle.acl_host.specs.Files.{put_in_order}

module _ {X : Type 0} (bytes : X → List ℕ) where
  -- the names from the index on
  names-from : (xs : List X) (i : ℕ) (x : X) → i < length xs → x ≡ get_or xs i x
      → drop i (map bytes xs) ≡ bytes x ∷ drop (i + 1) (map bytes xs)
  names-from xs i x within is =
      let long : i < length (map bytes xs) = rw length-map within in
      let at : get_or (map bytes xs) i (bytes x) ≡ bytes x =
      get_or-map bytes xs i x (bytes x) within ∙ ap bytes (sym is) in
      rw add-one (drop-cons (map bytes xs) i (bytes x) long
      ∙ ap (λ (n : List ℕ). n ∷ drop (suc i) (map bytes xs)) at)

  names-up-to : (xs : List X) (i : ℕ) (x : X) → i < length xs → x ≡ get_or xs i x
      → take (i + 1) (map bytes xs) ≡ take i (map bytes xs) ++ bytes x ∷ []
  names-up-to xs i x within is =
      let long : i < length (map bytes xs) = rw length-map within in
      let at : get_or (map bytes xs) i (bytes x) ≡ bytes x =
      get_or-map bytes xs i x (bytes x) within ∙ ap bytes (sym is) in
      rw add-one (take-suc (map bytes xs) i (bytes x) long
      ∙ ap (λ (n : List ℕ). take i (map bytes xs) ++ n ∷ []) at)

  pub place-found : (name : List ℕ) (xs : List X) (i : ℕ) (x : X) → i < length xs
      → x ≡ get_or xs i x → is_le (slice_cmp nat_cmp name (bytes x)) ≡ true
      → put_in_order name (map bytes xs) ≡ take i (map bytes xs)
      ++ put_in_order name (drop i (map bytes xs))
      → insert (map bytes xs) i name ≡ put_in_order name (map bytes xs)
  place-found name xs i x within is first before =
      let from = names-from xs i x within is in
      let put : put_in_order name (bytes x ∷ drop (i + 1) (map bytes xs))
      ≡ name ∷ bytes x ∷ drop (i + 1) (map bytes xs) = rw first refl in
      sym (before ∙ ap (λ t. take i (map bytes xs) ++ put_in_order name t) from
      ∙ ap (λ t. take i (map bytes xs) ++ t) put
      ∙ ap (λ t. take i (map bytes xs) ++ name ∷ t) (sym from))

  pub place-later : (name : List ℕ) (xs : List X) (i : ℕ) (x : X) → i < length xs
      → x ≡ get_or xs i x → is_le (slice_cmp nat_cmp name (bytes x)) ≡ false
      → put_in_order name (map bytes xs) ≡ take i (map bytes xs)
      ++ put_in_order name (drop i (map bytes xs))
      → put_in_order name (map bytes xs) ≡ take (i + 1) (map bytes xs)
      ++ put_in_order name (drop (i + 1) (map bytes xs))
  place-later name xs i x within is later before =
      let from = names-from xs i x within is in
      let put : put_in_order name (bytes x ∷ drop (i + 1) (map bytes xs))
      ≡ bytes x ∷ put_in_order name (drop (i + 1) (map bytes xs)) = rw later refl in
      before ∙ ap (λ t. take i (map bytes xs) ++ put_in_order name t) from
      ∙ ap (λ t. take i (map bytes xs) ++ t) put
      ∙ sym (append_assoc (take i (map bytes xs)) (bytes x ∷ [])
      (put_in_order name (drop (i + 1) (map bytes xs))))
      ∙ ap (λ t. t ++ put_in_order name (drop (i + 1) (map bytes xs)))
      (sym (names-up-to xs i x within is))

  pub bytes-insert : (xs : List X) (i : ℕ) (x : X)
      → map bytes (insert xs i x) ≡ insert (map bytes xs) i (bytes x)
  bytes-insert xs i x =
      map-append bytes (take i xs) (x ∷ drop i xs)
      ∙ ap (λ t. t ++ bytes x ∷ map bytes (drop i xs)) (sym (take-map bytes i xs))
      ∙ ap (λ t. take i (map bytes xs) ++ bytes x ∷ t) (sym (drop-map bytes i xs))

-- values in the order of their bytes: their bytes are in order
pub sorted-bytes : {X : Type 0} (bytes : X → List ℕ) (cmp : List ℕ → List ℕ
    → Ordering) (xs : List X)
    → IsSorted (λ x y. cmp (bytes x) (bytes y)) xs → IsSorted cmp (map bytes xs)
sorted-bytes bytes cmp [] s = λ k d low h. absurd (omega arith)
sorted-bytes bytes cmp (x ∷ xs) s = λ k d low h.
    let long : k + 1 < length (x ∷ xs) = rw length-map at h in
    let short : k < length (x ∷ xs) = omega arith in
    rw (get_or-map bytes (x ∷ xs) (k + 1) x d long, get_or-map bytes (x ∷ xs) k x d short)
    (s k x low long)
