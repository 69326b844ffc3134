-- One more number or text that is taken once.
use Rattle.std.proofs.Common.{◌≡◌, ◌⊎◌, ℕ, ◌+◌, ◌<◌, ◌≤◌, Bool, true, false, not, ◌==◌, ◌||◌, List, [], ◌∷◌, ◌++◌, length, drop, get_or, replicate, slice_set, Option, None, Some, MatchOption, option_to_list, inl, inr, refl, ap, sym, subst, ◌∙◌}
use Rattle.std.specs.List.{list_any}
use Rattle.std.specs.Str.{bytes_eq}
use Rattle.std.proofs.lemmas.Bool.{cond-false, cond-true, eq-eqb, eqb-true, or_cases, or_left, or_right, both_ways, false_from_ne_true}
use Rattle.std.proofs.lemmas.List.{drop_all, drop_more, map-append}
use Rattle.std.proofs.lemmas.Bool.Decides.{same_from_decides}
use Rattle.std.proofs.lemmas.List.Folds.{list_any-append}
use Rattle.std.proofs.lemmas.Option.{none-some}
use Rattle.indexmap.specs.IndexSet.{insert_key}
use Rattle.acl_naming.specs.MarkSteps.{marked}
use Rattle.acl_naming.proofs.MarkLaws.{mark_is, mark_kept, mark_only}
use Rattle.acl_naming.proofs.WalkLaws.{blank_unmarked}
use Rattle.acl_words.specs.declared.word_lists.Word.{Word}
use Rattle.acl_text.specs.declared.text_keys.TextKey.{TextKey}
use Rattle.acl_terms.specs.DistinctSteps.{AreMarked, has, new_words, same_key, texts_in}

or-there : (a b : Bool) → (b ≡ true → a ≡ true) → a ≡ (a || b)
or-there true b h = refl
or-there false true h = absurd (both_ways false refl (h refl))
or-there false false h = refl

or-last : (a b : Bool) → (a || (b || false)) ≡ (a || b)
or-last true b = refl
or-last false true = refl
or-last false false = refl

or-joined : (a b c : Bool) → ((a || b) || c) ≡ (a || (b || c))
or-joined true b c = refl
or-joined false b c = refl

or-none : (b : Bool) → b ≡ (b || false)
or-none true = refl
or-none false = refl

has-more : (n j : ℕ) (out : List ℕ) → has n (out ++ j ∷ []) ≡ (has n out || ((j == n) || false))
has-more n j out = list_any-append (λ m. m == n) out (j ∷ [])

-- A number that was taken already, and one that was not.
pub taken-again : (marks : List Bool) (out : List ℕ) (j : ℕ) → AreMarked marks out → marked marks j ≡ true
    → (n : ℕ) → has n out ≡ (has n out || (j == n))
taken-again marks out j are there n = or-there (has n out) (j == n)
    (λ e. subst (λ k. has k out ≡ true) (eqb-true j n e) (sym (are j) ∙ there))

pub taken-first : (out : List ℕ) (j n : ℕ) → has n (out ++ j ∷ []) ≡ (has n out || (j == n))
taken-first out j n = has-more n j out ∙ or-last (has n out) (j == n)

-- The next of the numbers was taken.
pub taken-next : (out out' numbers : List ℕ) (i : ℕ) → i < length numbers
    → ((n : ℕ) → has n out' ≡ (has n out || (get_or numbers i 0 == n)))
    → ((n : ℕ) → (has n out || has n (drop i numbers)) ≡ has n numbers)
    → (n : ℕ) → (has n out' || has n (drop (i + 1) numbers)) ≡ has n numbers
taken-next out out' numbers i within taken had n =
    ap (λ b. b || has n (drop (i + 1) numbers)) (taken n)
    ∙ or-joined (has n out) (get_or numbers i 0 == n) (has n (drop (i + 1) numbers))
    ∙ ap (λ ms. has n out || has n ms) (sym (drop_more numbers i 0 within)) ∙ had n

pub taken-all : (out numbers : List ℕ) (i : ℕ) → length numbers ≤ i
    → ((n : ℕ) → (has n out || has n (drop i numbers)) ≡ has n numbers) → (n : ℕ) → has n out ≡ has n numbers
taken-all out numbers i end had n =
    or-none (has n out) ∙ ap (λ ms. has n out || has n ms) (sym (drop_all i numbers end)) ∙ had n

pub nothing-marked : (marks : List Bool) → marks ≡ replicate 256 false → AreMarked marks [] × (length marks ≡ 256)
nothing-marked marks are = rw are (
  λ n. false_from_ne_true (marked (replicate 256 false) n) (λ h. blank_unmarked 256 n h),
  refl,
)

-- Marks stand at the numbers that were taken.
pub marked-more : (m : List Bool) (out : List ℕ) (j : ℕ) → j < length m
    → AreMarked m out → AreMarked (slice_set m j true) (out ++ j ∷ [])
marked-more m out j within had = λ n.
    same_from_decides {P = (marked m n ≡ true) ⊎ (n ≡ j)} (marked (slice_set m j true) n) (has n (out ++ j ∷ [])) (
      λ h. mark_only m n j h,
      λ p. elim p [
        | inl k ↦ mark_kept m n j k
        | inr e ↦ subst (λ i. marked (slice_set m j true) i ≡ true) (sym e) (mark_is m j within)
      ],
    ) (
      λ h. elim (or_cases (has n out) ((j == n) || false) (sym (has-more n j out) ∙ h)) [
        | inl a ↦ inl (had n ∙ a)
        | inr b ↦ elim (or_cases (j == n) false b) [
          | inl e ↦ inr (sym (eqb-true j n e))
          | inr f ↦ absurd (both_ways false refl f)
        ]
      ],
      λ p. has-more n j out ∙ (elim p as (λ x. (has n out || ((j == n) || false)) ≡ true) [
        | inl k ↦ or_left (has n out) ((j == n) || false) (sym (had n) ∙ k)
        | inr e ↦ or_right (has n out) ((j == n) || false) (or_left (j == n) false (eq-eqb j n (sym e)))
      ]),
    )

-- ---- texts

is-seen : (v : TextKey) (text : List ℕ) → v.text.now ≡ text → (keys : List TextKey)
    → list_any (same_key v) keys ≡ list_any (bytes_eq text) (texts_in keys)
is-seen v text is [] = refl
is-seen v text is (k ∷ keys) =
    ap (λ t. bytes_eq t k.text.now || list_any (same_key v) keys) is
    ∙ ap (λ b. bytes_eq text k.text.now || b) (is-seen v text is keys)

not-true : (b : Bool) → true ≡ not b → b ≡ false
not-true false h = refl
not-true true h = absurd (both_ways false refl (sym h))

not-false : (b : Bool) → false ≡ not b → b ≡ true
not-false true h = refl
not-false false h = absurd (both_ways false refl h)

pub text-is-new : (keys keys' : List TextKey) (v : TextKey) (w : Word) (words old : List Word) → v.text.now ≡ w.text
    → keys' ≡ insert_key same_key keys v → true ≡ not (list_any (same_key v) keys) → old ≡ w ∷ words
    → new_words (texts_in keys) old ≡ w ∷ new_words (texts_in keys') words
text-is-new keys keys' v w words old is put new left =
    let none : list_any (same_key v) keys ≡ false = not-true (list_any (same_key v) keys) new in
    let unseen : list_any (bytes_eq w.text) (texts_in keys) ≡ false = sym (is-seen v w.text is keys) ∙ none in
    let more : keys' ≡ keys ++ v ∷ [] = put ∙ cond-false (list_any (same_key v) keys) keys (keys ++ v ∷ []) none in
    let seen : texts_in keys' ≡ texts_in keys ++ w.text ∷ [] =
    ap texts_in more ∙ map-append (λ (k : TextKey). k.text.now) keys (v ∷ []) ∙ ap (λ t. texts_in keys ++ t ∷ []) is in
    ap (new_words (texts_in keys)) left ∙ cond-false (list_any (bytes_eq w.text) (texts_in keys)) _ _ unseen
    ∙ ap (λ ts. w ∷ new_words ts words) (sym seen)

-- The words that were left, where the next one is taken out.
pub rest-ahead : (o : Option Word) (old new : List Word) → MatchOption o ((old ≡ []) × (new ≡ [])) (λ w. old ≡ w ∷ new)
    → old ≡ option_to_list o ++ new
rest-ahead None old new h = h.0 ∙ sym h.1
rest-ahead (Some w) old new h = h

-- Where none was, none is left.
pub none-ahead : (o : Option Word) (old new : List Word) → MatchOption o ((old ≡ []) × (new ≡ [])) (λ w. old ≡ w ∷ new)
    → o ≡ None → new ≡ []
none-ahead None old new h e = h.1
none-ahead (Some w) old new h e = absurd (none-some w (sym e))

pub text-was-seen : (keys keys' : List TextKey) (v : TextKey) (w : Word) (words old : List Word) → v.text.now ≡ w.text
    → keys' ≡ insert_key same_key keys v → false ≡ not (list_any (same_key v) keys) → old ≡ w ∷ words
    → new_words (texts_in keys') words ≡ new_words (texts_in keys) old
text-was-seen keys keys' v w words old is put known left =
    let some : list_any (same_key v) keys ≡ true = not-false (list_any (same_key v) keys) known in
    let seen : list_any (bytes_eq w.text) (texts_in keys) ≡ true = sym (is-seen v w.text is keys) ∙ some in
    let kept : keys' ≡ keys = put ∙ cond-true (list_any (same_key v) keys) keys (keys ++ v ∷ []) some in
    ap (λ ks. new_words (texts_in ks) words) kept
    ∙ sym (ap (new_words (texts_in keys)) left ∙ cond-true (list_any (bytes_eq w.text) (texts_in keys)) _ _ seen)
