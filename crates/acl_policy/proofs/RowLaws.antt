-- A keyword is looked for among those of its length.
use Rattle.std.proofs.Common.{◌≡◌, ℕ, ◌==◌, Bool, true, false, not, if◌then◌else◌, List, [], ◌∷◌, length, map, Option, None, Some, option_map, refl, ap, sym, ◌∙◌, inl, inr}
use Rattle.std.specs.Str.{bytes_eq}
use Rattle.std.specs.List.{list_all}
use Rattle.std.specs.Option.{option_or}
use Rattle.std.proofs.lemmas.Bool.{and_parts, cases_Bool, cond-true, cond-false, eq-eqb, false_from_ne_true}
use Rattle.std.proofs.lemmas.Slice.Eq.{bytes_eq-Decides}
use Rattle.acl_policy.specs.declared.keywords.Keyword.{Keyword}
use Rattle.acl_policy.specs.declared.keywords.KeywordRow.{KeywordRow}
use Rattle.acl_policy.specs.Keywords.{all_keywords, line, row_in, row_named, row_of}

-- The rows whose texts have the length.
abbrev pub of_length : ℕ → List (List ℕ × KeywordRow) → List (List ℕ × KeywordRow)
of_length n [] = []
of_length n (r ∷ rs) = if length r.0 == n then r ∷ of_length n rs else of_length n rs

differs : (text written : List ℕ) → (length written == length text) ≡ false → bytes_eq text written ≡ false
differs text written h = false_from_ne_true (bytes_eq text written)
    (λ e. unequal (eq-eqb (length written) (length text) (ap length (sym ((bytes_eq-Decides text written).0 e)))))
  where
    unequal : (length written == length text) ≡ true → ⊥
    unequal e = absurd (cc)

same_length : (rows : List (List ℕ × KeywordRow)) (text : List ℕ) → row_in rows text ≡ row_in (of_length (length text) rows) text
same_length [] text = refl
same_length (r ∷ rs) text = elim (cases_Bool (length r.0 == length text)) [
  | inl h ↦ ap (λ o. if bytes_eq text r.0 then Some r.1 else o) (same_length rs text)
      ∙ ap (λ rows. row_in rows text) (sym (cond-true (length r.0 == length text) _ _ h))
  | inr h ↦ cond-false (bytes_eq text r.0) _ _ (differs text r.0 h) ∙ same_length rs text
      ∙ ap (λ rows. row_in rows text) (sym (cond-false (length r.0 == length text) _ _ h))
]

pub named_in : (n : ℕ) (text : List ℕ) → length text ≡ n → row_named text ≡ row_in (of_length n (map line all_keywords)) text
unfolding row_named
named_in n text e =
    same_length (map line all_keywords) text ∙ ap (λ m. row_in (of_length m (map line all_keywords)) text) e

none_left : (n : ℕ) (rows : List (List ℕ × KeywordRow)) → list_all (λ r. not (length r.0 == n)) rows ≡ true → of_length n rows ≡ []
none_left n [] h = refl
none_left n (r ∷ rs) h =
    let p = and_parts (not (length r.0 == n)) (list_all (λ r. not (length r.0 == n)) rs) h in
    cond-false (length r.0 == n) _ _ (not_false (length r.0 == n) p.0) ∙ none_left n rs p.1
  where
    not_false : (b : Bool) → not b ≡ true → b ≡ false
    not_false false h = refl
    not_false true h = absurd (cc)

-- No keyword has the length.
pub not_named : (text : List ℕ) → list_all (λ r. not (length r.0 == length text)) (map line all_keywords) ≡ true → row_named text ≡ None
not_named text h =
    named_in (length text) text refl ∙ ap (λ rows. row_in rows text) (none_left (length text) (map line all_keywords) h)

-- The row of the one of a few keywords that is written so.
abbrev pub only : List ℕ → List ℕ → Keyword → Option Keyword
only text written k = if bytes_eq text written then Some k else None

abbrev pub either : List ℕ → List ℕ → Keyword → List ℕ → Keyword → Option Keyword
either text written k other l = if bytes_eq text written then Some k else only text other l

one_way : (a : Bool) (k : Keyword) → option_map row_of (if a then Some k else None) ≡ (if a then Some (row_of k) else None)
one_way true k = refl
one_way false k = refl

two_ways : (a b : Bool) (k l : Keyword) → option_map row_of (if a then Some k else if b then Some l else None)
    ≡ (if a then Some (row_of k) else if b then Some (row_of l) else None)
two_ways true b k l = refl
two_ways false b k l = one_way b l

three_ways : (a b c : Bool) (k l m : Keyword)
    → option_map row_of (option_or (if a then Some k else None) (if b then Some l else if c then Some m else None))
    ≡ (if a then Some (row_of k) else if b then Some (row_of l) else if c then Some (row_of m) else None)
three_ways true b c k l m = refl
three_ways false b c k l m = two_ways b c l m

pub of_one : (n : ℕ) (text v : List ℕ) (k : Keyword) (o : Option Keyword) → length text ≡ n
    → of_length n (map line all_keywords) ≡ (v, row_of k) ∷ [] → o ≡ only text v k → option_map row_of o ≡ row_named text
of_one n text v k o len rows e =
    ap (option_map row_of) e ∙ one_way (bytes_eq text v) k
    ∙ sym (named_in n text len ∙ ap (λ rs. row_in rs text) rows)

pub of_two : (n : ℕ) (text v w : List ℕ) (k l : Keyword) (o : Option Keyword) → length text ≡ n
    → of_length n (map line all_keywords) ≡ (v, row_of k) ∷ (w, row_of l) ∷ []
    → o ≡ either text v k w l → option_map row_of o ≡ row_named text
of_two n text v w k l o len rows e =
    ap (option_map row_of) e ∙ two_ways (bytes_eq text v) (bytes_eq text w) k l
    ∙ sym (named_in n text len ∙ ap (λ rs. row_in rs text) rows)

pub of_three : (n : ℕ) (text u v w : List ℕ) (k l m : Keyword) (o p q : Option Keyword) → length text ≡ n
    → of_length n (map line all_keywords) ≡ (u, row_of k) ∷ (v, row_of l) ∷ (w, row_of m) ∷ []
    → o ≡ only text u k → p ≡ either text v l w m → q ≡ option_or o p → option_map row_of q ≡ row_named text
of_three n text u v w k l m o p q len rows e f g =
    ap (option_map row_of) (g ∙ ap (λ o. option_or o p) e ∙ ap (option_or (only text u k)) f)
    ∙ three_ways (bytes_eq text u) (bytes_eq text v) (bytes_eq text w) k l m
    ∙ sym (named_in n text len ∙ ap (λ rs. row_in rs text) rows)
