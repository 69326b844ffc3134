-- The groups that are computed are the longest within the weight, one after the other, and no others are.
use Rattle.std.proofs.Common.{◌≡◌, ℕ, zero, suc, ◌≤◌, List, [], ◌∷◌, length, take, drop, refl, ap, sym, subst, ◌∙◌, arith}
use Rattle.std.proofs.lemmas.List.{length-take}
use Rattle.acl_sets.specs.declared.sets.Range.{Range}
use Rattle.acl_sets.specs.Groups.{IsGroupEnd, group_length}
use Rattle.gen_iptables.specs.Groups.{AreGroups, IsFirstGroup, OneListOfGroups, behind_group, first_group, groups, groups_up_to}
use Rattle.gen_iptables.proofs.GroupLaws.{behind-shorter, first-end, one-at-least}

-- ---- the groups that are computed

first-size : (rs : List Range) → length (first_group rs) ≡ group_length 15 rs
first-size rs =
    let size = length-take (group_length 15 rs) rs in
    let end = first-end rs in
    omega (arith, size, end.within)

is-first : (r : Range) (rs : List Range) → IsFirstGroup (r ∷ rs) (first_group (r ∷ rs))
is-first r rs =
    let size = first-size (r ∷ rs) in
    record {
      some = omega (arith, size, one-at-least r rs);
      front = ap (λ k. take k (r ∷ rs)) (sym size);
      greatest = subst (IsGroupEnd (r ∷ rs) 0 15) (sym size) (first-end (r ∷ rs));
    }

are-groups : (n : ℕ) (rs : List Range) → length rs ≤ n → AreGroups rs (groups_up_to n rs)
unfolding groups_up_to
are-groups zero [] h = refl
are-groups zero (r ∷ rs) h = absurd (omega (arith, h))
are-groups (suc n) [] h = refl
are-groups (suc n) (r ∷ rs) h =
    let rest = behind_group (r ∷ rs) in
    let later = are-groups n rest (behind-shorter r rs n h) in
    let behind : rest ≡ drop (length (first_group (r ∷ rs))) (r ∷ rs) = ap (λ k. drop k (r ∷ rs)) (sym (first-size (r ∷ rs))) in
    (is-first r rs, subst (λ left. AreGroups left (groups_up_to n rest)) behind later)

-- ---- no others

same-end : (rs : List Range) (m n : ℕ) → IsGroupEnd rs 0 15 m → IsGroupEnd rs 0 15 n → m ≡ n
same-end rs m n a b =
    let up = b.greatest m a.behind a.within a.fits in
    let down = a.greatest n b.behind b.within b.fits in
    omega (arith, up, down)

no-first : (rs group : List Range) → rs ≡ [] → IsFirstGroup rs group → ⊥
no-first rs group none first =
    let empty = ap length none in
    omega (arith, empty, first.some, first.greatest.within)

same-groups : (rs : List Range) (gs hs : List (List Range)) → AreGroups rs gs → AreGroups rs hs → gs ≡ hs
same-groups rs [] [] j k = refl
same-groups rs [] (h ∷ hs) j k = absurd (no-first rs h j k.0)
same-groups rs (g ∷ gs) [] j k = absurd (no-first rs g k j.0)
same-groups rs (g ∷ gs) (h ∷ hs) j k =
    let size = same-end rs (length g) (length h) j.0.greatest k.0.greatest in
    let first : g ≡ h = j.0.front ∙ ap (λ n. take n rs) size ∙ sym k.0.front in
    let later = same-groups (drop (length g) rs) gs hs j.1 (subst (λ n. AreGroups (drop n rs) hs) (sym size) k.1) in
    ap (λ z. z ∷ gs) first ∙ ap (λ zs. h ∷ zs) later

pub one_list_of_groups : OneListOfGroups
one_list_of_groups rs list =
    let those = are-groups (length rs) rs (omega arith) in
    (λ h. same-groups rs list (groups rs) h those, λ e. subst (AreGroups rs) (sym e) those)
