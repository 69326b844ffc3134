-- Names that differ, alone and in two lists.
use Rattle.std.proofs.Common.{◌≡◌, ◌↔◌, ℕ, Bool, false, List, [], ◌∷◌, ◌++◌, IsTrue, sym, subst, ◌∙◌}
use Rattle.std.specs.Borrow.{Bor}
use Rattle.std.specs.Cmp.Lexicographic.{slice_cmp}
use Rattle.std.specs.List.{IsDistinct}
use Rattle.std.specs.Ordering.{eq_by_cmp, nat_cmp}
use Rattle.std.specs.Set.{is_member}
use Rattle.std.specs.Str.{bytes_eq}
use Rattle.std.proofs.lemmas.Bool.{or_parts}
use Rattle.std.proofs.lemmas.Map.Text.{is_eq-slice_cmp}
use Rattle.acl_text.specs.Cuts.{views}
use Rattle.acl_text.specs.Names.{in_common}
use Rattle.acl_rows.specs.ApartSteps.{are_apart}
use Rattle.acl_rows.proofs.ApartLaws.{Apart, none_clashes, apart_decides, apart_like}

-- borrowed names
names_tied : (a b : Bor (List ℕ)) → eq_by_cmp (λ (x y : Bor (List ℕ)). slice_cmp nat_cmp x.now y.now) a b ≡ bytes_eq a.now b.now
names_tied a b = is_eq-slice_cmp a.now b.now

pub names_apart : (names : List (Bor (List ℕ))) → are_apart (eq_by_cmp (λ x y. slice_cmp nat_cmp x.now y.now)) names ≡ are_apart bytes_eq (views names)
names_apart names = apart_like (λ x. x.now) (eq_by_cmp (λ x y. slice_cmp nat_cmp x.now y.now)) bytes_eq names_tied names

pub names_decide : (names : List (Bor (List ℕ))) (b : Bool) → b ≡ are_apart (eq_by_cmp (λ x y. slice_cmp nat_cmp x.now y.now)) names
    → IsTrue b ↔ IsDistinct bytes_eq (views names)
names_decide names b e =
    subst (λ c. IsTrue c ↔ IsDistinct bytes_eq (views names)) (sym (e ∙ names_apart names)) (apart_decides bytes_eq (views names))

apart-append : (name : List ℕ) (xs ys : List (List ℕ)) → Apart bytes_eq name xs → Apart bytes_eq name ys → Apart bytes_eq name (xs ++ ys)
apart-append name [] ys h k = k
apart-append name (x ∷ xs) ys h k = (h.0, apart-append name xs ys h.1 k)

-- names that differ in each of two lists, which have none in common, differ in the joined list
pub distinct-append : (xs ys : List (List ℕ)) → IsDistinct bytes_eq xs → IsDistinct bytes_eq ys → in_common xs ys ≡ false
    → IsDistinct bytes_eq (xs ++ ys)
unfolding IsDistinct
distinct-append [] ys h k n = k
distinct-append (x ∷ xs) ys h k n =
    let p = or_parts (is_member bytes_eq ys x) (in_common xs ys) n in
    (apart-append x xs ys h.0 (none_clashes bytes_eq x ys p.0), distinct-append xs ys h.1 k p.1)
