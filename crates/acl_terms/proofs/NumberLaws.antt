-- Sets of the numbers of words.
use Rattle.std.proofs.Common.{◌≡◌, ◌≢◌, ◌≤◌, ◌↔◌, ℕ, true, false, List, [], ◌∷◌, map, Option, None, Some, inl, inr, refl, ap, sym, ◌∙◌, subst, arith}
use Rattle.std.proofs.lemmas.Bool.Decides.{same_from_decides}
use Rattle.std.specs.Prelude.{flat_map, option_to_list, Result, Ok, Err, IfOk, length}
use Rattle.std.proofs.lemmas.Bool.{or_cases, or_left, or_right, both_ways}
use Rattle.std.proofs.lemmas.Option.{none-some, same_Some}
use Rattle.acl_sets.specs.declared.sets.Range.{Range}
use Rattle.acl_sets.specs.Ranges.{Numbers, IsNormal, holds, inside}
use Rattle.acl_sets.proofs.RangeLaws.{ends_of, in_range}
use Rattle.acl_words.specs.declared.word_lists.Word.{Word}
use Rattle.acl_terms.specs.Matching.{AnyOf, Admits}
use Rattle.acl_terms.specs.Sets.{IsSetOf}
use Rattle.acl_terms.specs.SetSteps.{single}
use Rattle.acl_terms.proofs.SetLaws.{any-join, same-set}

pub single-held : (ns : List ℕ) (x : ℕ) → (holds (map single ns) x ≡ true) ↔ AnyOf (λ n. n ≡ x) ns
single-held [] x = (λ h. absurd (both_ways false refl h), λ a. absurd a)
single-held (n ∷ ns) x =
    let rest = single-held ns x in (
      λ h. elim (or_cases (inside (single n) x) (holds (map single ns) x) h) [
        | inl i ↦ let e = ends_of n n x i in inl (omega arith)
        | inr i ↦ inr (rest.0 i)
      ],
      λ a. elim a [
        | inl e ↦ or_left (inside (single n) x) (holds (map single ns) x)
            (in_range n n x (omega arith) (omega arith))
        | inr r ↦ or_right (inside (single n) x) (holds (map single ns) x) (rest.1 r)
      ],
    )

-- The set of the ranges of single numbers holds those numbers.
pub numbers-set : (ns : List ℕ) (top : ℕ) (rs : List Range) (s : Numbers) → rs ≡ map single ns → s.top ≡ top
    → IsNormal 0 s.top s.ranges → ((x : ℕ) → holds s.ranges x ≡ holds rs x)
    → IsSetOf (λ x. AnyOf (λ n. n ≡ x) ns) top s
numbers-set ns top rs s e t n exact = record {
  top_is = t;
  normal = n;
  exact = λ x _. let law = single-held ns x in
      let same : holds s.ranges x ≡ holds (map single ns) x = exact x ∙ ap (λ q. holds q x) e in
      (λ h. law.0 (sym same ∙ h), λ a. same ∙ law.1 a);
}

pub one-number : (o : Option ℕ) (x : ℕ) → AnyOf (λ n. n ≡ x) (option_to_list o) ↔ (o ≡ Some x)
one-number None x = (λ a. absurd a, λ e. absurd (none-some x e))
one-number (Some n) x = (
  λ a. elim a [ inl e ↦ ap (λ k. Some k) e | inr b ↦ absurd b ],
  λ e. inl (same_Some n x e),
)

-- The numbers of words.
pub any-flat : (f : Word → Option ℕ) (ws : List Word) (x : ℕ)
    → AnyOf (λ n. n ≡ x) (flat_map (λ w. option_to_list (f w)) ws) ↔ AnyOf (λ w. f w ≡ Some x) ws
any-flat f [] x = (λ a. a, λ a. a)
any-flat f (w ∷ ws) x =
    let join = any-join (λ n. n ≡ x) (option_to_list (f w)) (flat_map (λ v. option_to_list (f v)) ws) in
    let here = one-number (f w) x in
    let rest = any-flat f ws x in (
      λ a. elim (join.0 a) [ inl l ↦ inl (here.0 l) | inr r ↦ inr (rest.0 r) ],
      λ b. elim b [ inl e ↦ join.1 (inl (here.1 e)) | inr r ↦ join.1 (inr (rest.1 r)) ],
    )

pub words-set : (f : Word → Option ℕ) (ws : List Word) (ns : List ℕ) (top : ℕ) (s : Numbers)
    → ns ≡ flat_map (λ w. option_to_list (f w)) ws → IsSetOf (λ x. AnyOf (λ n. n ≡ x) ns) top s
    → IsSetOf (λ x. AnyOf (λ w. f w ≡ Some x) ws) top s
words-set f ws ns top s e h =
    same-set (λ x. AnyOf (λ n. n ≡ x) ns) (λ x. AnyOf (λ w. f w ≡ Some x) ws) top s
    (λ x. subst (λ ms. AnyOf (λ n. n ≡ x) ms ↔ AnyOf (λ w. f w ≡ Some x) ws) (sym e) (any-flat f ws x)) h

-- The set of the numbers, as it is kept.
pub kept-set : (ns : List ℕ) (s : Numbers) → s.top ≡ 255 → IsNormal 0 s.top s.ranges
    → ((x : ℕ) → x ≤ 255 → holds s.ranges x ≡ holds (map single ns) x) → IsSetOf (λ x. AnyOf (λ n. n ≡ x) ns) 255 s
kept-set ns s t n e = record {
  top_is = t;
  normal = n;
  exact = λ x le. let q = single-held ns x in (λ h. q.0 (sym (e x le) ∙ h), λ a. e x le ∙ q.1 a);
}

pub set-kept : (ns : List ℕ) (s : Numbers) → IsSetOf (λ x. AnyOf (λ n. n ≡ x) ns) 255 s → (x : ℕ) → x ≤ 255
    → holds s.ranges x ≡ holds (map single ns) x
set-kept ns s is x le =
    same_from_decides {P = AnyOf (λ n. n ≡ x) ns} (holds s.ranges x) (holds (map single ns) x) (is.exact x le) (single-held ns x)

-- ---- what calls give

pub numbers-result : {E : Type 0} (ns : List ℕ) (top : ℕ) (rs : List Range) (r : Result Numbers E)
    → rs ≡ map single ns → IfOk r (λ s. s.top ≡ top) → IfOk r (λ s. IsNormal 0 s.top s.ranges)
    → IfOk r (λ s. (x : ℕ) → holds s.ranges x ≡ holds rs x)
    → IfOk r (λ s. IsSetOf (λ x. AnyOf (λ n. n ≡ x) ns) top s)
numbers-result ns top rs (Ok s) e t n exact = numbers-set ns top rs s e t n exact
numbers-result ns top rs (Err d) e t n exact = tt

pub words-result : {E : Type 0} (f : Word → Option ℕ) (ws : List Word) (ns : List ℕ) (top : ℕ) (r : Result Numbers E)
    → (first : Word) (behind : List Word) → ws ≡ first ∷ behind → ns ≡ flat_map (λ w. option_to_list (f w)) ws
    → IfOk r (λ s. IsSetOf (λ x. AnyOf (λ n. n ≡ x) ns) top s)
    → IfOk r (λ s. IsSetOf (λ x. Admits (λ w. f w ≡ Some x) ws) top s)
words-result f [] ns top (Ok s) first behind is e h = absurd (omega (arith, ap length is))
words-result f (w ∷ ws) ns top (Ok s) first behind is e h = words-set f (w ∷ ws) ns top s e h
words-result f ws ns top (Err d) first behind is e h = tt

-- The same of words of which it is known only that there are some.
pub written-result : {E : Type 0} (f : Word → Option ℕ) (ws : List Word) (ns : List ℕ) (top : ℕ) (r : Result Numbers E)
    → ws ≢ [] → ns ≡ flat_map (λ w. option_to_list (f w)) ws
    → IfOk r (λ s. IsSetOf (λ x. AnyOf (λ n. n ≡ x) ns) top s)
    → IfOk r (λ s. IsSetOf (λ x. Admits (λ w. f w ≡ Some x) ws) top s)
written-result f [] ns top r some e h = absurd (some refl)
written-result f (w ∷ ws) ns top r some e h = words-result f (w ∷ ws) ns top r w ws refl e h
