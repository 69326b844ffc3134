-- Ranges that are gathered word by word: what they hold, and what is left.
use Rattle.std.proofs.Common.{◌≡◌, ◌↔◌, ◌⊎◌, ℕ, ◌≤◌, true, false, List, [], ◌∷◌, Option, None, Some, inl, inr, refl, ap, sym, subst, ◌∙◌}
use Rattle.std.specs.List.{All}
use Rattle.std.specs.Option.{option_or}
use Rattle.std.proofs.lemmas.Bool.{both_ways}
use Rattle.std.proofs.lemmas.List.Elements.{All-nil}
use Rattle.acl_sets.specs.declared.sets.Range.{Range}
use Rattle.acl_sets.specs.Ranges.{IsRange, Numbers, holds}
use Rattle.acl_text.specs.Refusals.{first_in}
use Rattle.acl_text.specs.declared.faults.Slip.{Slip}
use Rattle.acl_words.specs.declared.word_lists.Word.{Word}
use Rattle.acl_terms.specs.Matching.{AnyOf}
use Rattle.acl_terms.specs.RangeSteps.{AreRangesOf, HoldsSame, IsLess}
use Rattle.acl_terms.specs.Sets.{IsSetOf}
use Rattle.acl_terms.proofs.SetLaws.{less-set}

-- What the ranges hold and what is left make up, up to the top, the numbers of which the fact holds.
pub record IsGathered (P left : ℕ → Type 0) (top : ℕ) (rs : List Range) : Type 0 where
  pub fits : All (λ r. IsRange top r) rs
  pub exact : (x : ℕ) → x ≤ top → ((holds rs x ≡ true) ⊎ left x) ↔ P x

-- Before the first of the words, all is left.
pub begun-words : (N : ℕ → Word → Type 0) (words left : List Word) (top : ℕ) (rs : List Range)
    → left ≡ words → rs ≡ []
    → IsGathered (λ x. AnyOf (N x) words) (λ x. AnyOf (N x) left) top rs
begun-words N words left top rs is none =
    subst (λ (l : List Word). IsGathered (λ x. AnyOf (N x) words) (λ x. AnyOf (N x) l) top rs) (sym is)
    (subst (λ (qs : List Range). IsGathered (λ x. AnyOf (N x) words) (λ x. AnyOf (N x) words) top qs)
    (sym none) (record {
      fits = All-nil (λ r. IsRange top r);
      exact = λ x le. (λ a. elim a [ inl h ↦ absurd (both_ways false refl h) | inr l ↦ l ], λ p. inr p);
    }))

-- Behind the next word.
pub next-names : (N : ℕ → Word → Type 0) (P : ℕ → Type 0) (old left : List Word) (w : Word) (top : ℕ) (rs more : List Range)
    → old ≡ w ∷ left → IsGathered P (λ x. AnyOf (N x) old) top rs
    → (All (λ r. IsRange top r) rs → All (λ r. IsRange top r) more)
    → ((x : ℕ) → (holds more x ≡ true) ↔ ((holds rs x ≡ true) ⊎ N x w))
    → IsGathered P (λ x. AnyOf (N x) left) top more
next-names N P old left w top rs more is had fits adds =
    let all = subst (λ (l : List Word). IsGathered P (λ x. AnyOf (N x) l) top rs) is had in
    record {
      fits = fits all.fits;
      exact = λ x le. let e = all.exact x le in let a = adds x in (
        λ h. elim h [
          | inl k ↦ elim (a.0 k) [ inl r ↦ e.0 (inl r) | inr n ↦ e.0 (inr (inl n)) ]
          | inr l ↦ e.0 (inr (inr l))
        ],
        λ p. elim (e.1 p) [
          | inl r ↦ inl (a.1 (inl r))
          | inr n ↦ elim n [ inl q ↦ inl (a.1 (inr q)) | inr l ↦ inr l ]
        ],
      );
    }

-- Behind the last one, the ranges hold the numbers.
pub ended-names : (N : ℕ → Word → Type 0) (P : ℕ → Type 0) (left : List Word) (top : ℕ) (rs : List Range)
    → left ≡ [] → IsGathered P (λ x. AnyOf (N x) left) top rs → AreRangesOf P top rs
ended-names N P left top rs none had =
    let all = subst (λ (l : List Word). IsGathered P (λ x. AnyOf (N x) l) top rs) none had in
    record {
      fits = all.fits;
      exact = λ x le. let e = all.exact x le in (
        λ h. e.0 (inl h),
        λ p. elim (e.1 p) [ inl h ↦ h | inr l ↦ absurd l ],
      );
    }

-- Behind the one word of a list.
pub only-name : (N : ℕ → Word → Type 0) (words : List Word) (w : Word) (top : ℕ) (old new : List Range)
    → words ≡ w ∷ [] → old ≡ []
    → (All (λ r. IsRange top r) old → All (λ r. IsRange top r) new)
    → ((x : ℕ) → (holds new x ≡ true) ↔ ((holds old x ≡ true) ⊎ N x w))
    → AreRangesOf (λ x. AnyOf (N x) words) top new
only-name N words w top old new is none fits adds =
    ended-names N (λ x. AnyOf (N x) words) [] top new refl
    (next-names N (λ x. AnyOf (N x) words) words [] w top old new is (begun-words N words words top old refl none) fits adds)

-- The one question on the one word of a list.
pub only-asked : {A : Type 0} (question : A → Option Slip) (xs : List A) (x : A) → xs ≡ x ∷ []
    → question x ≡ first_in question xs
only-asked question xs x is = last (question x) ∙ sym (ap (first_in question) is)
  where
    last : (o : Option Slip) → o ≡ option_or o None
    last None = refl
    last (Some s) = refl

-- The set of the ranges is that of the numbers.
pub set-of-ranges : (P : ℕ → Type 0) (top : ℕ) (rs : List Range) (s : Numbers) → AreRangesOf P top rs
    → HoldsSame top rs s → IsSetOf P top s
set-of-ranges P top rs s are holds_same = record {
  top_is = holds_same.top_is;
  normal = holds_same.normal;
  exact = λ x le. let e = are.exact x le in (
    λ h. e.0 (sym (holds_same.same x) ∙ h),
    λ p. holds_same.same x ∙ e.1 p,
  );
}

-- The numbers of the one set that are not in the other.
pub without-set : (P Q : ℕ → Type 0) (top : ℕ) (s m u : Numbers) → IsSetOf P top s → IsSetOf Q top m → IsLess s m u
    → IsSetOf (λ x. P x × (Q x → ⊥)) top u
without-set P Q top s m u hs hm less = less-set P Q top s m u hs hm less.top_is less.normal less.exact
