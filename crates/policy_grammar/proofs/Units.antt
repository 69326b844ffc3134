-- The reader of a policy's words as a walk: a word, a brace, and a keyword with its values are a step each.
use Rattle.std.proofs.Common.{◌≡◌, ℕ, Bool, true, false, not, if◌then◌else◌, List, [], ◌∷◌, ◌++◌, Result, refl, ap, sym, ◌∙◌}
use Rattle.std.specs.List.{list_all}
use Rattle.acl_text.specs.declared.faults.Place.{Place}
use Rattle.acl_text.specs.declared.faults.Slip.{Slip}
use Rattle.acl_text.specs.Steps.{◌>>=◌}
use Rattle.acl_words.specs.declared.forms.Form.TheVariants as forms
use Rattle.acl_words.specs.Tokens.{Token}
use Rattle.acl_words.specs.Words.{word}
use Rattle.acl_policy.specs.ReadingParts.{PolicyState}
use Rattle.acl_policy.specs.Policies.{behind_word, behind_words, behind_keyword, behind_begin, behind_end, behind_mark, is_mark, values_of, behind_marks}
use Rattle.policy_grammar.proofs.Outcomes.{bind_assoc, bind_same, and_left, and_right, not_true}

abbrev pub walk : PolicyState → List Token → Result PolicyState Slip
walk s ws = behind_words s (values_of ws) >>= λ t. behind_marks t ws

-- None of the words is a keyword or a brace.
abbrev pub no_marks : List Token → Bool
no_marks ws = list_all (λ (w : Token). not (is_mark w.form)) ws

pub walk_word : (s : PolicyState) (w : Token) (ws : List Token) → is_mark w.form ≡ false
    → walk s (w ∷ ws) ≡ (behind_word s.part s w >>= λ t. walk t ws)
walk_word s w ws h =
    ap (λ b. behind_words s (if b then [] else w ∷ values_of ws)
    >>= λ t. (if b then (behind_mark w.form t w (values_of ws) >>= λ u. behind_marks u ws) else behind_marks t ws)) h
    ∙ bind_assoc (behind_word s.part s w) (λ t. behind_words t (values_of ws)) (λ t. behind_marks t ws)

pub walk_begin : (s : PolicyState) (place : Place) (text : List ℕ) (ws : List Token)
    → walk s (word place forms.Begin text ∷ ws) ≡ (behind_begin s.part s (word place forms.Begin text) >>= λ t. walk t ws)
unfolding behind_mark
walk_begin s place text ws =
    bind_assoc (behind_begin s.part s (word place forms.Begin text)) (λ t. behind_words t (values_of ws)) (λ t. behind_marks t ws)

pub walk_end : (s : PolicyState) (place : Place) (text : List ℕ) (ws : List Token)
    → walk s (word place forms.End text ∷ ws) ≡ (behind_end s.part s (word place forms.End text) >>= λ t. walk t ws)
unfolding behind_mark
walk_end s place text ws =
    bind_assoc (behind_end s.part s (word place forms.End text)) (λ t. behind_words t (values_of ws)) (λ t. behind_marks t ws)

-- The values of a keyword, before a mark or the end.
values_front : (vs rest : List Token) → no_marks vs ≡ true → values_of rest ≡ [] → values_of (vs ++ rest) ≡ vs
values_front [] rest h e = e
values_front (v ∷ vs) rest h e =
    let n : is_mark v.form ≡ false = not_true (is_mark v.form) (and_left (not (is_mark v.form)) (no_marks vs) h) in
    ap (λ b. if b then [] else v ∷ values_of (vs ++ rest)) n
    ∙ ap (λ xs. v ∷ xs) (values_front vs rest (and_right (not (is_mark v.form)) (no_marks vs) h) e)

pub marks_behind : (t : PolicyState) (vs rest : List Token) → no_marks vs ≡ true → behind_marks t (vs ++ rest) ≡ behind_marks t rest
marks_behind t [] rest h = refl
marks_behind t (v ∷ vs) rest h =
    let n : is_mark v.form ≡ false = not_true (is_mark v.form) (and_left (not (is_mark v.form)) (no_marks vs) h) in
    ap (λ b. if b then (behind_mark v.form t v (values_of (vs ++ rest)) >>= λ u. behind_marks u
    (vs ++ rest)) else behind_marks t (vs ++ rest)) n
    ∙ marks_behind t vs rest (and_right (not (is_mark v.form)) (no_marks vs) h)

pub walk_marks : (t : PolicyState) (rest : List Token) → values_of rest ≡ [] → behind_marks t rest ≡ walk t rest
walk_marks t rest e = ap (λ xs. behind_words t xs >>= λ u. behind_marks u rest) (sym e)

pub walk_keyword : (s : PolicyState) (place : Place) (text : List ℕ) (vs rest : List Token) → no_marks vs ≡ true → values_of rest ≡ []
    → walk s (word place forms.Keyword text ∷ vs ++ rest)
    ≡ (behind_keyword s.part s (word place forms.Keyword text) vs >>= λ t. walk t rest)
unfolding behind_mark
walk_keyword s place text vs rest h e =
    let k : Token = word place forms.Keyword text in
    ap (λ xs. behind_keyword s.part s k xs >>= λ t. behind_marks t (vs ++ rest)) (values_front vs rest h e)
    ∙ bind_same (behind_keyword s.part s k vs) (λ t. behind_marks t (vs ++ rest)) (λ t. walk t rest)
    (λ t. marks_behind t vs rest h ∙ walk_marks t rest e)
