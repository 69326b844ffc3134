-- A word has the place of the line where it begins.
use Rattle.std.proofs.Common.{◌≡◌, ℕ, ◌==◌, ◌&&◌, Bool, true, false, if◌then◌else◌, List, [], ◌∷◌, ◌++◌, map, None, Some, subst, sym}
use Rattle.std.specs.List.{All, AllByRecursion}
use Rattle.std.specs.Option.{option_map_or}
use Rattle.std.proofs.lemmas.List.Elements.{All-nil, All-cons, All-append, All-contains_itself, All-from_recursion, recursion_from_All}
use Rattle.acl_text.specs.declared.faults.Place.{Place}
use Rattle.acl_text.specs.declared.file_lines.Line.{Line}
use Rattle.acl_words.specs.declared.forms.Form.{Form}
use Rattle.acl_words.specs.declared.forms.Form.TheVariants as forms
use Rattle.acl_words.specs.Tokens.{Token}
use Rattle.acl_words.specs.Bytes.{in_run, first_bad, ends_in_colon}
use Rattle.acl_words.specs.Places.{IsLinePlace, HaveLinePlaces}
use Rattle.acl_words.specs.Words.{word, part_word, last_part, split_run, OpenPart, Between, Comment, Run, String, opened_mode, brace, mode_behind, words_at, words_in, mode_in, line_words, line_mode, words_at_end, words_from, words_of}

either : {A : Type 0} (Q : A → Type 0) (c : Bool) (x y : A) → Q x → Q y → Q (if c then x else y)
either Q true x y h k = h
either Q false x y h k = k

module _ (At : Place → Type 0) where
  abbrev Stand : List Token → Type 0
  Stand ws = All (λ (w : Token). At w.place) ws

  -- A word that stands open has such a place.
  abbrev Stands : OpenPart → Type 0
  Stands Between = Unit {0}
  Stands Comment = Unit {0}
  Stands (Run from text) = At from
  Stands (String from text) = At from

  none : Stand []
  none = All-nil (λ (w : Token). At w.place)

  one : (w : Token) → At w.place → Stand (w ∷ [])
  one w h = All-cons (λ (w : Token). At w.place) w [] h none

  both : (xs ys : List Token) → Stand xs → Stand ys → Stand (xs ++ ys)
  both xs ys h k = All-append (λ (w : Token). At w.place) xs ys h k

  part_stands : (place : Place) (form : Form) (text : List ℕ) → At place → At (part_word place form text).place
  part_stands place form text h = elim (first_bad text)
      as (λ o. At (option_map_or {U = Token} (λ b. word place forms.Bad (b ∷ [])) o (word place form text)).place) [
        | None ↦ h
        | Some b ↦ h
      ]

  last_stands : (place : Place) (part : List ℕ) → At place → Stand (last_part place part)
  last_stands place [] h = none
  last_stands place (b ∷ bs) h = one (part_word place forms.Plain (b ∷ bs)) (part_stands place forms.Plain (b ∷ bs) h)

  run_stands : (place : Place) (part text : List ℕ) → At place → Stand (split_run place part text)
  run_stands place part [] h = last_stands place part h
  run_stands place part (b ∷ bs) h = either Stand (ends_in_colon part && b == 58) _ _
      (All-cons (λ (w : Token). At w.place) (part_word place forms.Keyword (part ++ b ∷ [])) (split_run place [] bs)
      (part_stands place forms.Keyword (part ++ b ∷ []) h) (run_stands place [] bs h))
      (run_stands place (part ++ b ∷ []) bs h)

  opened_stands : (place : Place) (b : ℕ) → At place → Stands (opened_mode place b)
  opened_stands place b h = either Stands (b == 34) _ _ h
      (either Stands (b == 35) _ _ tt (either Stands (in_run b) _ _ h tt))

  brace_stands : (place : Place) (b : ℕ) → At place → Stand (brace place b)
  brace_stands place b h = either Stand (b == 123) _ _ (one (word place forms.Begin (b ∷ [])) h)
      (either Stand (b == 125) _ _ (one (word place forms.End (b ∷ [])) h) none)

  behind_stands : (m : OpenPart) (place : Place) (b : ℕ) → Stands m → At place → Stands (mode_behind m place b)
  behind_stands Between place b m h = opened_stands place b h
  behind_stands Comment place b m h = either Stands (b == 10) _ _ tt tt
  behind_stands (Run from text) place b m h = either Stands (in_run b) _ _ m (opened_stands place b h)
  behind_stands (String from text) place b m h = either Stands (b == 34) _ _ tt m

  words_stand : (m : OpenPart) (place : Place) (b : ℕ) → Stands m → At place → Stand (words_at m place b)
  words_stand Between place b m h = brace_stands place b h
  words_stand Comment place b m h = none
  words_stand (Run from text) place b m h = either Stand (in_run b) _ _ none
      (both (split_run from [] text) (brace place b) (run_stands from [] text m) (brace_stands place b h))
  words_stand (String from text) place b m h = either Stand (b == 34) _ _ (one (word from forms.Quoted text) m) none

  words_in_stand : (place : Place) (m : OpenPart) (bs : List ℕ) → Stands m → At place → Stand (words_in place m bs)
  words_in_stand place m [] s h = none
  words_in_stand place m (b ∷ bs) s h = both (words_at m place b) (words_in place (mode_behind m place b) bs)
      (words_stand m place b s h) (words_in_stand place (mode_behind m place b) bs (behind_stands m place b s h) h)

  mode_in_stands : (place : Place) (m : OpenPart) (bs : List ℕ) → Stands m → At place → Stands (mode_in place m bs)
  mode_in_stands place m [] s h = s
  mode_in_stands place m (b ∷ bs) s h = mode_in_stands place (mode_behind m place b) bs (behind_stands m place b s h) h

  line_stands : (l : Line) (m : OpenPart) → Stands m → At l.place → Stand (line_words l m)
  line_stands l m s h = both (words_in l.place m l.text) (words_at (mode_in l.place m l.text) l.place 10)
      (words_in_stand l.place m l.text s h) (words_stand (mode_in l.place m l.text) l.place 10 (mode_in_stands l.place m l.text s h) h)

  line_mode_stands : (l : Line) (m : OpenPart) → Stands m → At l.place → Stands (line_mode l m)
  line_mode_stands l m s h = behind_stands (mode_in l.place m l.text) l.place 10 (mode_in_stands l.place m l.text s h) h

  end_stands : (m : OpenPart) → Stands m → Stand (words_at_end m)
  end_stands Between h = none
  end_stands Comment h = none
  end_stands (Run from text) h = run_stands from [] text h
  end_stands (String from text) h = one (word from forms.Unclosed (34 ∷ [])) h

  from_stand : (m : OpenPart) (ls : List Line) → Stands m → AllByRecursion (λ (l : Line). At l.place) ls → Stand (words_from m ls)
  from_stand m [] s h = end_stands m s
  from_stand m (l ∷ ls) s h = both (line_words l m) (words_from (line_mode l m) ls)
      (line_stands l m s h.0) (from_stand (line_mode l m) ls (line_mode_stands l m s h.0) h.1)

own_places : (lines : List Line) → AllByRecursion (λ (l : Line). IsLinePlace lines l.place) lines
own_places lines = recursion_from_All (λ (l : Line). IsLinePlace lines l.place) lines
    (unmapped (IsLinePlace lines) lines (All-contains_itself (map (λ (l : Line). l.place) lines)))
  where
    unmapped : (P : Place → Type 0) (ls : List Line) → All P (map (λ (l : Line). l.place) ls) → All (λ (l : Line). P l.place) ls
    unmapped P ls h = All-from_recursion (λ (l : Line). P l.place) ls (by_recursion ls (recursion_from_All P (map (λ (l : Line). l.place) ls) h))
      where
        by_recursion : (ls : List Line) → AllByRecursion P (map (λ (l : Line). l.place) ls) → AllByRecursion (λ (l : Line). P l.place) ls
        by_recursion [] h = tt
        by_recursion (l ∷ ls) h = (h.0, by_recursion ls h.1)

pub have_line_places : (lines : List Line) → HaveLinePlaces lines (words_of lines)
unfolding words_of
have_line_places lines = from_stand (IsLinePlace lines) Between lines tt (own_places lines)

pub words_have_line_places : (lines : List Line) (words : List Token) → words ≡ words_of lines → HaveLinePlaces lines words
words_have_line_places lines words e = subst (HaveLinePlaces lines) (sym e) (have_line_places lines)
