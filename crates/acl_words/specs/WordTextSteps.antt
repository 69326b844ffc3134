-- Words as one text.
use Rattle.std.specs.Prelude.{◌≡◌, ℕ, List, [], ◌∷◌, ◌++◌, flat_map, map}
use Rattle.std.specs.List.{All}
use Rattle.std.specs.Option.{option_map_or}
use Rattle.acl_text.specs.declared.faults.Place.{Place}
use Rattle.acl_text.specs.Cuts.{cut_at}
use Rattle.acl_words.specs.LineTexts.{HasNoFeed}
use Rattle.acl_words.specs.declared.word_lists.Word.{Word}

-- The text of words: each word with a line feed (10) behind it.
abbrev pub text_of : List Word → List ℕ
text_of words = flat_map (λ w. w.text ++ 10 ∷ []) words

-- The words that a text has at the places, each up to a line feed.
abbrev pub words_at : List Place → List ℕ → List Word
words_at [] text = []
words_at (p ∷ places) text =
    option_map_or {U = List Word} (λ c. record { place = p; text = c.0 } ∷ words_at places c.1)
    (cut_at 10 text) []

-- The words are those that the places and the text tell.
pub record AreKept (words : List Word) (places : List Place) (text : List ℕ) : Type 0 where
  pub text_is : text ≡ text_of words
  pub places_are : places ≡ map (λ w. w.place) words
  pub no_feeds : All (λ w. HasNoFeed w.text) words
