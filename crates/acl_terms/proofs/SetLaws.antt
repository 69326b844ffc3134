-- Sets that hold exactly the numbers of which a fact holds: union, difference, nothing and all.
use Rattle.std.proofs.Common.{◌≡◌, ◌≢◌, ◌↔◌, ◌⊎◌, ℕ, ◌+◌, ◌<◌, ◌≤◌, true, false, not, ◌&&◌, ◌||◌, List, [], ◌∷◌, ◌++◌, length, take, get_or, inl, inr, refl, ap, sym, subst, ◌∙◌, arith}
use Rattle.std.proofs.lemmas.Bool.{and_from, and_parts, or_cases, or_left, or_right, both_ways, false_from_ne_true}
use Rattle.std.proofs.lemmas.List.{take_more}
use Rattle.acl_sets.specs.declared.sets.Range.{Range}
use Rattle.acl_sets.specs.Ranges.{Numbers, IsNormal, holds, inside}
use Rattle.acl_sets.proofs.RangeLaws.{in_range}
use Rattle.acl_terms.specs.Matching.{AnyOf}
use Rattle.acl_terms.specs.Sets.{IsSetOf}
use Rattle.acl_terms.proofs.TestLaws.{true-not}
use Rattle.acl_terms.proofs.WordLaws.{none-more}

-- ---- some of a list

pub any-join : {A : Type 0} (P : A → Type 0) (xs ys : List A)
    → AnyOf P (xs ++ ys) ↔ (AnyOf P xs ⊎ AnyOf P ys)
any-join P [] ys = (λ a. inr a, λ e. elim e [ inl a ↦ absurd a | inr b ↦ b ])
any-join P (x ∷ xs) ys =
    let rest = any-join P xs ys in (
      λ a. elim a [
        | inl h ↦ inl (inl h)
        | inr t ↦ elim (rest.0 t) [ inl b ↦ inl (inr b) | inr b ↦ inr b ]
      ],
      λ e. elim e [
        | inl a ↦ elim a [ inl h ↦ inl h | inr t ↦ inr (rest.1 (inl t)) ]
        | inr b ↦ inr (rest.1 (inr b))
      ],
    )

pub any-more : {A : Type 0} (P : A → Type 0) (xs : List A) (i : ℕ) (a d : A) → i < length xs
    → a ≡ get_or xs i d → AnyOf P (take (i + 1) xs) ↔ (AnyOf P (take i xs) ⊎ P a)
any-more P xs i a d h is =
    let j = any-join P (take i xs) (get_or xs i d ∷ []) in
    rw (take_more xs i d h, is) (
      λ s. elim (j.0 s) [
        | inl l ↦ inl l
        | inr r ↦ elim r [ inl p ↦ inr p | inr b ↦ absurd b ]
      ],
      λ e. elim e [ inl l ↦ j.1 (inl l) | inr p ↦ j.1 (inr (inl p)) ],
    )

-- ---- sets

pub same-set : (P Q : ℕ → Type 0) (top : ℕ) (s : Numbers) → ((x : ℕ) → P x ↔ Q x)
    → IsSetOf P top s → IsSetOf Q top s
same-set P Q top s same h = record {
  top_is = h.top_is;
  normal = h.normal;
  exact = λ x le. let e = h.exact x le in let q = same x in (λ a. q.0 (e.0 a), λ b. e.1 (q.1 b));
}

pub joined-set : (P Q : ℕ → Type 0) (top : ℕ) (s m u : Numbers) → IsSetOf P top s
    → IsSetOf Q top m → u.top ≡ s.top → IsNormal 0 u.top u.ranges
    → ((x : ℕ) → holds u.ranges x ≡ (holds s.ranges x || holds m.ranges x))
    → IsSetOf (λ x. P x ⊎ Q x) top u
joined-set P Q top s m u hs hm t n e = record {
  top_is = t ∙ hs.top_is;
  normal = n;
  exact = λ x le. let a = hs.exact x le in let b = hm.exact x le in (
    λ h. elim (or_cases (holds s.ranges x) (holds m.ranges x) (sym (e x) ∙ h)) [
      | inl l ↦ inl (a.0 l)
      | inr r ↦ inr (b.0 r)
    ],
    λ w. elim w [
      | inl p ↦ e x ∙ or_left (holds s.ranges x) (holds m.ranges x) (a.1 p)
      | inr q ↦ e x ∙ or_right (holds s.ranges x) (holds m.ranges x) (b.1 q)
    ],
  );
}

pub less-set : (P Q : ℕ → Type 0) (top : ℕ) (s m u : Numbers) → IsSetOf P top s
    → IsSetOf Q top m → u.top ≡ s.top → IsNormal 0 u.top u.ranges
    → ((x : ℕ) → holds u.ranges x ≡ (holds s.ranges x && not (holds m.ranges x)))
    → IsSetOf (λ x. P x × (Q x → ⊥)) top u
less-set P Q top s m u hs hm t n e = record {
  top_is = t ∙ hs.top_is;
  normal = n;
  exact = λ x le. let a = hs.exact x le in let b = hm.exact x le in (
    λ h. let p = and_parts (holds s.ranges x) (not (holds m.ranges x)) (sym (e x) ∙ h) in
        (a.0 p.0, λ q. both_ways (holds m.ranges x) ((true-not (holds m.ranges x)).0 p.1) (b.1 q)),
    λ w. e x ∙ and_from (holds s.ranges x) (not (holds m.ranges x)) (a.1 w.0)
        ((true-not (holds m.ranges x)).1 (false_from_ne_true (holds m.ranges x) (λ h. w.1 (b.0 h)))),
  );
}

-- Nothing is taken away where nothing is named.
pub none-less : {A : Type 0} (P : ℕ → Type 0) (Q : ℕ → A → Type 0) (top : ℕ) (xs : List A) (s : Numbers) → xs ≡ []
    → IsSetOf P top s → IsSetOf (λ x. P x × (AnyOf (Q x) xs → ⊥)) top s
none-less P Q top [] s e h =
    same-set P (λ x. P x × (AnyOf (Q x) [] → ⊥)) top s (λ x. (λ p. (p, λ a. a), λ q. q.0)) h
none-less P Q top (x ∷ xs) s e h = absurd (none-more x xs e)

-- The set of the one item of a list.
pub only-set : {A : Type 0} (P : ℕ → A → Type 0) (top : ℕ) (xs : List A) (x : A) (s : Numbers) → xs ≡ x ∷ []
    → IsSetOf (λ n. P n x) top s → IsSetOf (λ n. AnyOf (P n) xs) top s
only-set P top xs x s is h =
    subst (λ ys. IsSetOf (λ n. AnyOf (P n) ys) top s) (sym is)
    (same-set (λ n. P n x) (λ n. AnyOf (P n) (x ∷ [])) top s
    (λ n. (λ p. inl p, λ a. elim a [ inl p ↦ p | inr b ↦ absurd b ])) h)

-- The union with the set of the next item of a list.
pub more-set : {A : Type 0} (P : ℕ → A → Type 0) (top : ℕ) (xs : List A) (i : ℕ) (a d : A)
    (s m u : Numbers) → i < length xs → a ≡ get_or xs i d
    → IsSetOf (λ x. AnyOf (P x) (take i xs)) top s → IsSetOf (λ x. P x a) top m → u.top ≡ s.top
    → IsNormal 0 u.top u.ranges
    → ((x : ℕ) → holds u.ranges x ≡ (holds s.ranges x || holds m.ranges x))
    → IsSetOf (λ x. AnyOf (P x) (take (i + 1) xs)) top u
more-set P top xs i a d s m u within is hs hm t n e =
    same-set (λ x. AnyOf (P x) (take i xs) ⊎ P x a) (λ x. AnyOf (P x) (take (i + 1) xs)) top u
    (λ x. let q = any-more (P x) xs i a d within is in (q.1, q.0))
    (joined-set (λ x. AnyOf (P x) (take i xs)) (λ x. P x a) top s m u hs hm t n e)

-- A list in normal form that is not empty holds a number up to its top.
pub holds-some : (top : ℕ) (rs : List Range) → IsNormal 0 top rs → rs ≢ []
    → (x : ℕ) × (x ≤ top) × (holds rs x ≡ true)
holds-some top [] n some = absurd (some refl)
holds-some top (r ∷ rs) n some =
    let first : r.low ≤ r.high = n.1 in
    let last : r.high ≤ top = n.2 in (
      r.low,
      omega arith,
      or_left (inside r r.low) (holds rs r.low)
          (in_range r.low r.high r.low (omega arith) first),
    )

-- The union with a set that is not empty is not empty.
pub more-some : (top : ℕ) (s m u : Numbers) → IsNormal 0 m.top m.ranges → m.ranges ≢ []
    → ((x : ℕ) → holds u.ranges x ≡ (holds s.ranges x || holds m.ranges x)) → u.ranges ≢ []
more-some top s m u normal some e = λ none.
    let p = holds-some m.top m.ranges normal some in
    both_ways false refl (sym (ap (λ rs. holds rs p.0) none) ∙ e p.0
    ∙ or_right (holds s.ranges p.0) (holds m.ranges p.0) p.2)

-- ---- sets of what was given so far

-- What the set holds and what is left make up, up to the top, the numbers of which the fact holds.
pub record IsSetSoFar (P left : ℕ → Type 0) (top : ℕ) (s : Numbers) : Type 0 where
  pub top_is : s.top ≡ top
  pub normal : IsNormal 0 s.top s.ranges
  pub exact : (x : ℕ) → x ≤ top → ((holds s.ranges x ≡ true) ⊎ left x) ↔ P x

pub begun-set : (P left : ℕ → Type 0) (top : ℕ) (s : Numbers) → s.top ≡ top → IsNormal 0 s.top s.ranges
    → ((x : ℕ) → holds s.ranges x ≡ false) → ((x : ℕ) → left x ↔ P x) → IsSetSoFar P left top s
begun-set P left top s t n none same = record {
  top_is = t;
  normal = n;
  exact = λ x le. let q = same x in (
    λ a. elim a [ inl h ↦ absurd (both_ways (holds s.ranges x) (none x) h) | inr l ↦ q.0 l ],
    λ p. inr (q.1 p),
  );
}

-- The union with the set of the next item.
pub next-set : (P Q left : ℕ → Type 0) (top : ℕ) (s m u : Numbers) → IsSetSoFar P (λ x. Q x ⊎ left x) top s
    → IsSetOf Q top m → u.top ≡ s.top → IsNormal 0 u.top u.ranges
    → ((x : ℕ) → holds u.ranges x ≡ (holds s.ranges x || holds m.ranges x)) → IsSetSoFar P left top u
next-set P Q left top s m u hs hm t n e = record {
  top_is = t ∙ hs.top_is;
  normal = n;
  exact = λ x le. let a = hs.exact x le in let b = hm.exact x le in (
    λ h. elim h [
      | inl k ↦ elim (or_cases (holds s.ranges x) (holds m.ranges x) (sym (e x) ∙ k)) [
        | inl l ↦ a.0 (inl l)
        | inr r ↦ a.0 (inr (inl (b.0 r)))
      ]
      | inr l ↦ a.0 (inr (inr l))
    ],
    λ p. elim (a.1 p) [
      | inl k ↦ inl (e x ∙ or_left (holds s.ranges x) (holds m.ranges x) k)
      | inr r ↦ elim r [
        | inl q ↦ inl (e x ∙ or_right (holds s.ranges x) (holds m.ranges x) (b.1 q))
        | inr l ↦ inr l
      ]
    ],
  );
}

pub ended-set : (P left : ℕ → Type 0) (top : ℕ) (s : Numbers) → ((x : ℕ) → left x → ⊥)
    → IsSetSoFar P left top s → IsSetOf P top s
ended-set P left top s none h = record {
  top_is = h.top_is;
  normal = h.normal;
  exact = λ x le. let a = h.exact x le in (
    λ k. a.0 (inl k),
    λ p. elim (a.1 p) [ inl k ↦ k | inr l ↦ absurd (none x l) ],
  );
}
