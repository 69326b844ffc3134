-- Lines as one text.
use Rattle.std.specs.Prelude.{◌≡◌, ℕ, false, List, [], ◌∷◌, ◌++◌, flat_map, map}
use Rattle.std.specs.List.{All}
use Rattle.acl_text.specs.declared.faults.Place.{Place}
use Rattle.acl_text.specs.declared.file_lines.Line.{Line}
use Rattle.acl_text.specs.Cursors.{lines_of}
use Rattle.acl_text.specs.Cuts.{has_byte}

-- The text of lines: each line with a line feed (10) behind it.
abbrev pub text_of : List Line → List ℕ
text_of lines = flat_map (λ l. l.text ++ 10 ∷ []) lines

-- No line feed stands in the text.
abbrev pub HasNoFeed : List ℕ → Type 0
HasNoFeed text = has_byte 10 text ≡ false

-- No line feed stands in one of the lines, so each line feed of their text ends a line.
abbrev pub HaveNoFeeds : List Line → Type 0
HaveNoFeeds lines = All (λ l. HasNoFeed l.text) lines

-- Lines from their places and their texts.
abbrev pub placed : List Place → List (List ℕ) → List Line
placed [] texts = []
placed (p ∷ places) [] = []
placed (p ∷ places) (t ∷ texts) = record { place = p; text = t } ∷ placed places texts

-- The lines that a text has at the places.
abbrev pub lines_at : List Place → List ℕ → List Line
lines_at places text = placed places (lines_of text)

-- The lines are those that the places and the text tell.
pub record AreKept (lines : List Line) (places : List Place) (text : List ℕ) : Type 0 where
  pub text_is : text ≡ text_of lines
  pub places_are : places ≡ map (λ l. l.place) lines
  pub no_feeds : HaveNoFeeds lines
