-- Bytes that a word may have, and that end no keyword.
use Rattle.std.proofs.Common.{◌≡◌, ℕ, ◌==◌, ◌-◌, ◌&&◌, true, false, List, [], ◌∷◌, ◌++◌, take, drop, length, refl, ap, sym, ◌∙◌, arith, append_assoc, append-nil}
use Rattle.std.specs.List.{list_all}
use Rattle.std.proofs.lemmas.List.{length-drop, take-append-drop, take_all}
use Rattle.std.proofs.lemmas.Bool.{cond-true, cond-false, and_parts}
use Rattle.acl_words.specs.Bytes.{in_run, is_printed, first_bad, ends_in_colon}
use Rattle.acl_words.specs.ReadingSteps.{first_part, is_inner}

pub inner_runs : (b : ℕ) → is_inner b ≡ true → in_run b ≡ true
inner_runs b h = grind arith

inner_printed : (b : ℕ) → is_inner b ≡ true → is_printed b ≡ true
inner_printed b h = grind arith

no_colon : (part : List ℕ) (b : ℕ) → is_inner b ≡ true → (ends_in_colon part && b == 58) ≡ false
no_colon part b h = grind arith

-- The part goes on with such bytes.
pub inner_goes_on : (xs part ys : List ℕ) → list_all is_inner xs ≡ true
    → first_part part (xs ++ ys) ≡ first_part (part ++ xs) ys
inner_goes_on [] part ys h = ap (λ t. first_part t ys) (sym (append-nil part))
inner_goes_on (x ∷ xs) part ys h =
    let p = and_parts (is_inner x) (list_all is_inner xs) h in
    cond-true (in_run x) _ _ (inner_runs x p.0)
    ∙ cond-false (ends_in_colon part && x == 58) _ _ (no_colon part x p.0)
    ∙ inner_goes_on xs (part ++ x ∷ []) ys p.1
    ∙ ap (λ t. first_part t ys) (append_assoc part (x ∷ []) xs)

pub clean : (xs ys : List ℕ) → list_all is_inner xs ≡ true → first_bad (xs ++ ys) ≡ first_bad ys
clean [] ys h = refl
clean (x ∷ xs) ys h =
    let p = and_parts (is_inner x) (list_all is_inner xs) h in
    cond-true (is_printed x) _ _ (inner_printed x p.0) ∙ clean xs ys p.1

pub behind_inner : (n : ℕ) (text : List ℕ) → list_all is_inner (take n text) ≡ true
    → first_part (take n text) (drop n text) ≡ first_part [] text
behind_inner n text h =
    sym (inner_goes_on (take n text) [] (drop n text) h) ∙ ap (first_part []) (take-append-drop n text)

pub bad_behind : (n : ℕ) (text : List ℕ) → list_all is_inner (take n text) ≡ true
    → first_bad (take (length text - n) (drop n text)) ≡ first_bad text
bad_behind n text h =
    ap first_bad (take_all (length text - n) (drop n text) (omega (arith, length-drop n text)))
    ∙ sym (clean (take n text) (drop n text) h) ∙ ap first_bad (take-append-drop n text)
