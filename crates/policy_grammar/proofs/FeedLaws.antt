-- A line with line feeds in it has the words of the lines that those feeds end.
use Rattle.std.proofs.Common.{◌≡◌, ℕ, ◌==◌, Bool, true, false, ◌||◌, if◌then◌else◌, List, [], ◌∷◌, ◌++◌, map, ap, refl, sym, subst, ◌∙◌, append_assoc}
use Rattle.std.specs.List.{AllByRecursion}
use Rattle.std.proofs.lemmas.Bool.{eqb-true}
use Rattle.acl_text.specs.Cuts.{has_byte}
use Rattle.acl_text.specs.declared.faults.Place.{Place}
use Rattle.acl_text.specs.declared.file_lines.Line.{Line}
use Rattle.acl_text.proofs.ListLaws.{all_append}
use Rattle.acl_words.specs.LineTexts.{HasNoFeed}
use Rattle.acl_words.specs.Words.{OpenPart, Between, line_mode, line_words, mode_behind, mode_in, words_at, words_from, words_in, words_of}

-- The text before the first feed, and the texts behind the feeds.
abbrev first_part : List ℕ → List ℕ
first_part [] = []
first_part (b ∷ bs) = if b == 10 then [] else b ∷ first_part bs

abbrev later_parts : List ℕ → List (List ℕ)
later_parts [] = []
later_parts (b ∷ bs) = if b == 10 then first_part bs ∷ later_parts bs else later_parts bs

abbrev line_at : Place → List ℕ → Line
line_at place text = record { place = place; text = text }

abbrev split_line : Line → List Line
split_line l = map (line_at l.place) (first_part l.text ∷ later_parts l.text)

abbrev pub split_lines : List Line → List Line
split_lines [] = []
split_lines (l ∷ ls) = split_line l ++ split_lines ls

-- ---- words

-- The first byte of a line, before the rest of the line.
line_goes_on : (place : Place) (b : ℕ) (text : List ℕ) (m : OpenPart) (ls : List Line)
    → words_from m (line_at place (b ∷ text) ∷ ls)
    ≡ words_at m place b ++ words_from (mode_behind m place b) (line_at place text ∷ ls)
line_goes_on place b text m ls =
    let n : OpenPart = mode_behind m place b in
    let at_end = words_at (mode_in place n text) place 10 in
    let behind = words_from (mode_behind (mode_in place n text) place 10) ls in
    ap (λ ws. ws ++ behind) (append_assoc (words_at m place b) (words_in place n text) at_end)
    ∙ append_assoc (words_at m place b) (words_in place n text ++ at_end) behind

parts_words : (place : Place) (text : List ℕ) (m : OpenPart) (ls : List Line)
    → words_from m (split_line (line_at place text) ++ ls) ≡ words_from m (line_at place text ∷ ls)
parts_words place [] m ls = refl
parts_words place (b ∷ bs) m ls = by (λ n. parts_words place bs n ls) (b == 10) refl where
  by : ((n : OpenPart) → words_from n (split_line (line_at place bs) ++ ls) ≡ words_from n (line_at place bs ∷ ls))
      → (c : Bool) → (b == 10) ≡ c
      → words_from m (map (line_at place) ((if c then [] else b ∷ first_part bs)
      ∷ (if c then first_part bs ∷ later_parts bs else later_parts bs)) ++ ls)
      ≡ words_from m (line_at place (b ∷ bs) ∷ ls)
  by rest true e =
      subst (λ x. words_at m place 10 ++ words_from (mode_behind m place 10) (split_line (line_at place bs) ++ ls)
      ≡ words_from m (line_at place (x ∷ bs) ∷ ls)) (sym (eqb-true b 10 e))
      (ap (λ ws. words_at m place 10 ++ ws) (rest (mode_behind m place 10))
      ∙ sym (line_goes_on place 10 bs m ls))
  by rest false e =
      line_goes_on place b (first_part bs) m (map (line_at place) (later_parts bs) ++ ls)
      ∙ ap (λ ws. words_at m place b ++ ws) (rest (mode_behind m place b))
      ∙ sym (line_goes_on place b bs m ls)

split_words : (m : OpenPart) (ls : List Line) → words_from m (split_lines ls) ≡ words_from m ls
split_words m [] = refl
split_words m (l ∷ ls) =
    parts_words l.place l.text m (split_lines ls)
    ∙ ap (λ ws. line_words l m ++ ws) (split_words (line_mode l m) ls)

pub split_words_are : (ls : List Line) → words_of (split_lines ls) ≡ words_of ls
unfolding words_of
split_words_are ls = split_words Between ls

-- ---- no line has a feed

first_free : (bs : List ℕ) → HasNoFeed (first_part bs)
first_free [] = refl
first_free (b ∷ bs) = by (first_free bs) (b == 10) refl where
  by : HasNoFeed (first_part bs) → (c : Bool) → (b == 10) ≡ c → HasNoFeed (if c then [] else b ∷ first_part bs)
  by rest true e = refl
  by rest false e = ap (λ x. x || has_byte 10 (first_part bs)) e ∙ rest

abbrev Free : Line → Type 0
Free l = HasNoFeed l.text

later_free : (place : Place) (bs : List ℕ) → AllByRecursion Free (map (line_at place) (later_parts bs))
later_free place [] = tt
later_free place (b ∷ bs) = by (later_free place bs) (b == 10) where
  by : AllByRecursion Free (map (line_at place) (later_parts bs))
      → (c : Bool) → AllByRecursion Free (map (line_at place) (if c then first_part bs ∷ later_parts bs else later_parts bs))
  by rest true = (first_free bs, rest)
  by rest false = rest

pub split_free : (ls : List Line) → AllByRecursion (λ l. HasNoFeed l.text) (split_lines ls)
split_free [] = tt
split_free (l ∷ ls) =
    all_append Free (split_line l) (split_lines ls) (first_free l.text, later_free l.place l.text) (split_free ls)
