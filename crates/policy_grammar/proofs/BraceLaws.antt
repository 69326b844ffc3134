-- The braces among the words of lines are `{` and `}`.
use Rattle.std.proofs.Common.{◌≡◌, ℕ, ◌==◌, ◌&&◌, Bool, true, false, if◌then◌else◌, List, [], ◌∷◌, ◌++◌, None, Some, refl, ap, eqb-true}
use Rattle.std.specs.List.{AllByRecursion}
use Rattle.std.specs.Option.{option_map_or}
use Rattle.acl_text.specs.declared.faults.Place.{Place}
use Rattle.acl_text.specs.declared.file_lines.Line.{Line}
use Rattle.acl_words.specs.declared.forms.Form.{Form}
use Rattle.acl_words.specs.declared.forms.Form.TheVariants as forms
use Rattle.acl_words.specs.Tokens.{Token}
use Rattle.acl_words.specs.Bytes.{in_run, first_bad, ends_in_colon}
use Rattle.acl_words.specs.Words.{word, part_word, last_part, split_run, OpenPart, Between, Comment, Run, String, brace, mode_behind, words_at, words_in, mode_in, line_words, line_mode, words_at_end, words_from, words_of}
use Rattle.policy_grammar.specs.ReadingLaws.{IsBraceText}

abbrev All : List Token → Type 0
All ws = AllByRecursion IsBraceText ws

either : (c : Bool) (x y : List Token) → (c ≡ true → All x) → (c ≡ false → All y) → All (if c then x else y)
either true x y h k = h refl
either false x y h k = k refl

both : (xs ys : List Token) → All xs → All ys → All (xs ++ ys)
both [] ys h k = k
both (x ∷ xs) ys h k = (h.0, both xs ys h.1 k)

plain_are : (place : Place) (text : List ℕ) → IsBraceText (word place forms.Plain text)
plain_are place text = record { begin_is = λ e. cc; end_is = λ e. cc }

keyword_are : (place : Place) (text : List ℕ) → IsBraceText (word place forms.Keyword text)
keyword_are place text = record { begin_is = λ e. cc; end_is = λ e. cc }

quoted_are : (place : Place) (text : List ℕ) → IsBraceText (word place forms.Quoted text)
quoted_are place text = record { begin_is = λ e. cc; end_is = λ e. cc }

unclosed_are : (place : Place) (text : List ℕ) → IsBraceText (word place forms.Unclosed text)
unclosed_are place text = record { begin_is = λ e. cc; end_is = λ e. cc }

bad_are : (place : Place) (text : List ℕ) → IsBraceText (word place forms.Bad text)
bad_are place text = record { begin_is = λ e. cc; end_is = λ e. cc }

part_are : (place : Place) (form : Form) (text : List ℕ) → IsBraceText (word place form text)
    → IsBraceText (part_word place form text)
part_are place form text h = elim (first_bad text)
    as (λ o. IsBraceText (option_map_or {U = Token} (λ b. word place forms.Bad (b ∷ [])) o (word place form text))) [
      | None ↦ h
      | Some b ↦ bad_are place (b ∷ [])
    ]

last_are : (place : Place) (part : List ℕ) → All (last_part place part)
last_are place [] = tt
last_are place (b ∷ bs) = (part_are place forms.Plain (b ∷ bs) (plain_are place (b ∷ bs)), tt)

run_are : (place : Place) (part text : List ℕ) → All (split_run place part text)
run_are place part [] = last_are place part
run_are place part (b ∷ bs) = either (ends_in_colon part && b == 58) _ _
    (λ _. (part_are place forms.Keyword (part ++ b ∷ []) (keyword_are place (part ++ b ∷ [])), run_are place [] bs))
    (λ _. run_are place (part ++ b ∷ []) bs)

brace_are : (place : Place) (b : ℕ) → All (brace place b)
brace_are place b = either (b == 123) _ _
    (λ c. (record { begin_is = λ _. ap (λ x. x ∷ []) (eqb-true b 123 c); end_is = λ e. cc }, tt))
    (λ _. either (b == 125) _ _
    (λ c. (record { begin_is = λ e. cc; end_is = λ _. ap (λ x. x ∷ []) (eqb-true b 125 c) }, tt))
    (λ _. tt))

words_are : (m : OpenPart) (place : Place) (b : ℕ) → All (words_at m place b)
words_are Between place b = brace_are place b
words_are Comment place b = tt
words_are (Run from text) place b = either (in_run b) _ _ (λ _. tt)
    (λ _. both (split_run from [] text) (brace place b) (run_are from [] text) (brace_are place b))
words_are (String from text) place b = either (b == 34) _ _ (λ _. (quoted_are from text, tt)) (λ _. tt)

words_in_are : (place : Place) (m : OpenPart) (bs : List ℕ) → All (words_in place m bs)
words_in_are place m [] = tt
words_in_are place m (b ∷ bs) = both (words_at m place b) (words_in place (mode_behind m place b) bs)
    (words_are m place b) (words_in_are place (mode_behind m place b) bs)

end_are : (m : OpenPart) → All (words_at_end m)
end_are Between = tt
end_are Comment = tt
end_are (Run from text) = run_are from [] text
end_are (String from text) = (unclosed_are from (34 ∷ []), tt)

from_are : (m : OpenPart) (ls : List Line) → All (words_from m ls)
from_are m [] = end_are m
from_are m (l ∷ ls) = both (line_words l m) (words_from (line_mode l m) ls)
    (both (words_in l.place m l.text) (words_at (mode_in l.place m l.text) l.place 10)
    (words_in_are l.place m l.text) (words_are (mode_in l.place m l.text) l.place 10))
    (from_are (line_mode l m) ls)

pub braces_are : (lines : List Line) → AllByRecursion IsBraceText (words_of lines)
unfolding words_of
braces_are lines = from_are Between lines
