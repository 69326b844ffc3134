-- A word of inner bytes, and a keyword that they make with `::` behind them.
use Rattle.std.proofs.Common.{◌≡◌, ℕ, ◌==◌, ◌-◌, ◌+◌, ◌&&◌, true, false, List, [], ◌∷◌, ◌++◌, drop, take, length, None, refl, ap, sym, ◌∙◌, arith, suc, append_assoc, append-nil}
use Rattle.std.specs.List.{list_all}
use Rattle.std.specs.Prelude.{nat_eq}
use Rattle.std.specs.Cmp.Lexicographic.{pointwise}
use Rattle.std.specs.Option.{option_map_or}
use Rattle.std.proofs.Math.Seq.{drop-append_seam}
use Rattle.std.proofs.lemmas.List.{length-append, take_at}
use Rattle.std.proofs.lemmas.Bool.{cond-true, cond-false, and_parts}
use Rattle.acl_text.specs.declared.faults.Place.{Place}
use Rattle.acl_text.proofs.CutLaws.{has-not}
use Rattle.acl_words.specs.LineTexts.{HasNoFeed}
use Rattle.acl_words.specs.declared.forms.Form.{Form}
use Rattle.acl_words.specs.declared.forms.Form.TheVariants as forms
use Rattle.acl_words.specs.Bytes.{in_run, first_bad, ends_in_colon}
use Rattle.acl_words.specs.Words.{word, part_word, Between}
use Rattle.acl_words.specs.ReadingSteps.{Reached, words_on, begins_run, first_part, is_inner}
use Rattle.acl_words.proofs.InnerLaws.{inner_goes_on, inner_runs, clean}
use Rattle.acl_words.proofs.ReadingLaws.{part_and_rest, part_read}

pub inner_has_no_feed : (bs : List ℕ) → list_all is_inner bs ≡ true → HasNoFeed bs
inner_has_no_feed bs h = has-not is_inner 10 bs h refl

word_is : (place : Place) (form : Form) (text : List ℕ) → first_bad text ≡ None → part_word place form text ≡ word place form text
word_is place form text h = ap (λ o. option_map_or (λ b. word place forms.Bad (b ∷ [])) o (word place form text)) h

all_good : (text : List ℕ) → list_all is_inner text ≡ true → first_bad text ≡ None
all_good text h = ap first_bad (sym (append-nil text)) ∙ clean text [] h

-- ---- words

stops_at : (part next : List ℕ) → begins_run next ≡ false → first_part part next ≡ (forms.Plain, part, next)
stops_at part [] h = refl
stops_at part (b ∷ bs) h = cond-false (in_run b) _ _ h

-- Inner bytes, behind which a run ends, are a word.
pub plain_read : (text next : List ℕ) (r : Reached) → begins_run (text ++ next) ≡ true → list_all is_inner text ≡ true
    → begins_run next ≡ false → words_on Between r (text ++ next) ≡ word r.place forms.Plain text ∷ words_on Between r next
plain_read [] next r b h e = absurd (cc)
plain_read (x ∷ xs) next r b h e =
    part_read x (xs ++ next) r b
    ∙ ap (part_and_rest r) (inner_goes_on (x ∷ xs) [] next h ∙ stops_at (x ∷ xs) next e)
    ∙ ap (λ w. w ∷ words_on Between r next) (word_is r.place forms.Plain (x ∷ xs) (all_good (x ∷ xs) h))

-- ---- keywords

no_colon : (b : ℕ) → is_inner b ≡ true → (58 == b) ≡ false
no_colon b h = grind arith

no_colon_ends : (bs : List ℕ) → list_all is_inner bs ≡ true → ends_in_colon bs ≡ false
no_colon_ends [] h = refl
no_colon_ends (x ∷ []) h = ap (λ c. c && true) (no_colon x (and_parts (is_inner x) true h).0)
no_colon_ends (x ∷ y ∷ ys) h =
    let e : length (x ∷ y ∷ ys) - 1 ≡ suc (length ys) = omega arith in
    let f : length (y ∷ ys) - 1 ≡ length ys = omega arith in
    ap (λ n. pointwise nat_eq (58 ∷ []) (drop n (x ∷ y ∷ ys))) e
    ∙ sym (ap (λ n. pointwise nat_eq (58 ∷ []) (drop n (y ∷ ys))) f)
    ∙ no_colon_ends (y ∷ ys) (and_parts (is_inner x) (list_all is_inner (y ∷ ys)) h).1

colon_ends : (bs : List ℕ) → ends_in_colon (bs ++ 58 ∷ []) ≡ true
colon_ends bs =
    let e : length (bs ++ 58 ∷ []) - 1 ≡ length bs = omega (arith, length-append bs (58 ∷ [])) in
    ap (λ n. pointwise nat_eq (58 ∷ []) (drop n (bs ++ 58 ∷ []))) e
    ∙ ap (λ (t : List ℕ). pointwise nat_eq (58 ∷ []) t) (drop-append_seam bs (58 ∷ []))

two_colons : (text next : List ℕ) → list_all is_inner text ≡ true
    → first_part [] (text ++ 58 ∷ 58 ∷ next) ≡ (forms.Keyword, text ++ 58 ∷ 58 ∷ [], next)
two_colons text next h =
    inner_goes_on text [] (58 ∷ 58 ∷ next) h
    ∙ cond-false (ends_in_colon text && true) _ _ (ap (λ c. c && true) (no_colon_ends text h))
    ∙ cond-true (ends_in_colon (text ++ 58 ∷ []) && true) _ _ (ap (λ c. c && true) (colon_ends text))
    ∙ ap (λ t. (forms.Keyword, t, next)) (append_assoc text (58 ∷ []) (58 ∷ []))

run_read : (text next : List ℕ) (r : Reached) → list_all is_inner text ≡ true
    → words_on Between r (text ++ 58 ∷ 58 ∷ next) ≡ part_and_rest r (first_part [] (text ++ 58 ∷ 58 ∷ next))
run_read [] next r h = part_read 58 (58 ∷ next) r refl
run_read (x ∷ xs) next r h =
    part_read x (xs ++ 58 ∷ 58 ∷ next) r (inner_runs x (and_parts (is_inner x) (list_all is_inner xs) h).0)

keyword_taken : (text next : List ℕ) → take (length text + 2) (text ++ 58 ∷ 58 ∷ next) ≡ text ++ 58 ∷ 58 ∷ []
keyword_taken text next =
    ap (λ t. take (length text + 2) t) (sym (append_assoc text (58 ∷ 58 ∷ []) next))
    ∙ take_at (text ++ 58 ∷ 58 ∷ []) next (length text + 2) (length-append text (58 ∷ 58 ∷ []))

-- Inner bytes with `::` behind them are a keyword.
pub keyword_read : (rest text next : List ℕ) (r : Reached) → rest ≡ text ++ 58 ∷ 58 ∷ next → list_all is_inner text ≡ true
    → words_on Between r rest ≡ word r.place forms.Keyword (take (length text + 2) rest) ∷ words_on Between r next
keyword_read rest text next r e h =
    let full = text ++ 58 ∷ 58 ∷ [] in
    ap (words_on Between r) e
    ∙ run_read text next r h
    ∙ ap (part_and_rest r) (two_colons text next h)
    ∙ ap (λ w. w ∷ words_on Between r next) (word_is r.place forms.Keyword full (clean text (58 ∷ 58 ∷ []) h))
    ∙ ap (λ (t : List ℕ). word r.place forms.Keyword t ∷ words_on Between r next)
    (sym (keyword_taken text next) ∙ ap (λ t. take (length text + 2) t) (sym e))
