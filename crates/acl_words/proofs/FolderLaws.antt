-- Folders of paths, from the back and as text.
use Prim.Native.Nat.{suc}
use Rattle.std.proofs.Common.{◌≡◌, ◌≢◌, ℕ, ◌+◌, ◌-◌, ◌<◌, ◌≤◌, ◌==◌, Bool, true, false, ◌||◌, List, [], ◌∷◌, ◌++◌, length, take, get_or, refl, ap, subst, ◌∙◌, sym, arith, add-one}
use Rattle.std.proofs.lemmas.Grind.{common_steps}
use Rattle.std.proofs.lemmas.Bool.Decides.{nat_tests}
use Rattle.std.proofs.lemmas.List.{take_all, take_more}
use Rattle.std.proofs.Math.Bool.{or-true, or-false}
use Rattle.std.specs.List.{list_any}
use Rattle.std.specs.Str.{IsUtf8, IsCharBoundary}
use Rattle.std.proofs.lemmas.Str.{IsUtf8-take, IsUtf8-nil, IsCharBoundary-after_ascii}
use Rattle.acl_words.specs.Folders.{folder_of}

abbrev has_slash : List ℕ → Bool
has_slash bs = list_any (λ c. c == 47) bs

has_slash-append : (xs ys : List ℕ) → has_slash (xs ++ ys) ≡ (has_slash xs || has_slash ys)
has_slash-append [] ys = refl
has_slash-append (x ∷ xs) ys = let h = has_slash-append xs ys in grind (arith, common_steps)

other_is_none : (b : ℕ) → b ≢ 47 → (b == 47) ≡ false
other_is_none b h = grind (arith, nat_tests)

folder_of-slash : (xs : List ℕ) → folder_of (xs ++ 47 ∷ []) ≡ xs ++ 47 ∷ []
folder_of-slash [] = refl
folder_of-slash (x ∷ xs) =
    let here : has_slash (xs ++ 47 ∷ []) ≡ true = has_slash-append xs (47 ∷ []) ∙ or-true (has_slash xs) in
    rw (here, or-true) (ap (λ bs. x ∷ bs) (folder_of-slash xs))

folder_of-other : (xs : List ℕ) (b : ℕ) → b ≢ 47 → folder_of (xs ++ b ∷ []) ≡ folder_of xs
folder_of-other [] b h = rw (other_is_none b h) refl
folder_of-other (x ∷ xs) b h =
    let none : (b == 47) ≡ false = other_is_none b h in
    let last : has_slash (b ∷ []) ≡ false = or-false (b == 47) ∙ none in
    let same : has_slash (xs ++ b ∷ []) ≡ has_slash xs = has_slash-append xs (b ∷ []) ∙ ap (λ v. has_slash xs || v) last ∙ or-false (has_slash xs) in
    rw (same, folder_of-other xs b h) refl

split_last : (xs : List ℕ) → 1 ≤ length xs → xs ≡ take (length xs - 1) xs ++ get_or xs (length xs - 1) 0 ∷ []
split_last xs h =
    let k : length xs ≤ length xs - 1 + 1 = omega arith in
    let inside : length xs - 1 < length xs = omega arith in
    sym (take_all (length xs - 1 + 1) xs k) ∙ take_more xs (length xs - 1) 0 inside

-- a text that ends in a slash is its own folder
pub ends_in_slash : (xs : List ℕ) → 1 ≤ length xs → get_or xs (length xs - 1) 0 ≡ 47 → folder_of xs ≡ xs
ends_in_slash xs h e =
    let parts : xs ≡ take (length xs - 1) xs ++ 47 ∷ [] = split_last xs h ∙ ap (λ b. take (length xs - 1) xs ++ b ∷ []) e in
    ap folder_of parts ∙ folder_of-slash (take (length xs - 1) xs) ∙ sym parts

-- another last byte is not of the folder
pub ends_in_other : (xs : List ℕ) → 1 ≤ length xs → get_or xs (length xs - 1) 0 ≢ 47 → folder_of (take (length xs - 1) xs) ≡ folder_of xs
ends_in_other xs h e = sym (folder_of-other (take (length xs - 1) xs) (get_or xs (length xs - 1) 0) e) ∙ sym (ap folder_of (split_last xs h))

none_here : (bs : List ℕ) → has_slash bs ≡ false → folder_of bs ≡ []
none_here [] h = refl
none_here (b ∷ bs) h = rw h refl

abbrev CutBehindSlash : List ℕ → Type 0
CutBehindSlash bs = (i : ℕ) × (i < length bs) × (get_or bs i 0 ≡ 47) × (folder_of bs ≡ take (suc i) bs)

cut_here : (b : ℕ) (bs : List ℕ) → has_slash (b ∷ bs) ≡ true → has_slash bs ≡ false → CutBehindSlash (b ∷ bs)
cut_here b bs h none =
    let is_slash : (b == 47) ≡ true = sym (or-false (b == 47)) ∙ ap (λ v. b == 47 || v) (sym none) ∙ h in
    (0, omega arith, grind (arith, nat_tests), rw (h, none_here bs none) refl)

cut_behind : (bs : List ℕ) → has_slash bs ≡ true → CutBehindSlash bs
cut_behind [] h = absurd (cc)
cut_behind (b ∷ bs) h = elim (has_slash bs) as (λ v. has_slash bs ≡ v → CutBehindSlash (b ∷ bs)) [
  | true ↦ λ e. let r = cut_behind bs e in (suc r.0, grind arith, r.2, rw (h, r.3) refl)
  | false ↦ λ e. cut_here b bs h e
] refl

-- the folder of a text is a text
pub IsUtf8-folder : (path : List ℕ) → IsUtf8 path → IsUtf8 (folder_of path)
IsUtf8-folder path h = elim (has_slash path) as (λ v. has_slash path ≡ v → IsUtf8 (folder_of path)) [
  | true ↦ λ e.
      let r = cut_behind path e in
      let ascii : get_or path r.0 0 < 128 = omega (arith, r.2) in
      let bound : IsCharBoundary path (r.0 + 1) = IsCharBoundary-after_ascii path r.0 h r.1 ascii in
      subst IsUtf8 (ap (λ n. take n path) (add-one r.0) ∙ sym r.3) (IsUtf8-take path (r.0 + 1) h bound)
  | false ↦ λ e. subst IsUtf8 (sym (none_here path e)) IsUtf8-nil
] refl
