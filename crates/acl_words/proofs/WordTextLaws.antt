-- One more word, in the text and in the places, and the first of them; the texts of words as lines.
use Rattle.std.proofs.Common.{◌≡◌, ℕ, List, [], ◌∷◌, ◌++◌, None, Some, map, refl, ap, sym, ◌∙◌, append_assoc, append-nil}
use Rattle.std.specs.List.{AllByRecursion}
use Rattle.std.specs.Option.{option_map_or}
use Rattle.std.proofs.lemmas.List.{map-append}
use Rattle.std.proofs.lemmas.List.Concat.{flat_map-append}
use Rattle.std.proofs.lemmas.List.Elements.{All-nil, All-cons, All-append, recursion_from_All}
use Rattle.acl_text.specs.declared.faults.Place.{Place}
use Rattle.acl_text.specs.Cursors.{lines_of, or_all}
use Rattle.acl_text.specs.Cuts.{cut_at}
use Rattle.acl_text.proofs.CursorLaws.{lines_step}
use Rattle.acl_text.proofs.CutLaws.{cut-again}
use Rattle.acl_words.specs.LineTexts.{HasNoFeed}
use Rattle.acl_words.specs.declared.word_lists.Word.{Word}
use Rattle.acl_words.specs.WordTextSteps.{AreKept, text_of, words_at}

-- What is left where no line feed is, and behind the first.
pub nothing_left : (places : List Place) (text : List ℕ) → cut_at 10 text ≡ None → words_at places text ≡ []
nothing_left [] text e = refl
nothing_left (p ∷ places) text e =
    ap (λ o. option_map_or {U = List Word} (λ c. record { place = p; text = c.0 } ∷ words_at places c.1) o []) e

pub front_left : (places behind : List Place) (p : Place) (text front rest : List ℕ) → places ≡ p ∷ behind
    → cut_at 10 text ≡ Some (front, rest)
    → words_at places text ≡ record { place = p; text = front } ∷ words_at behind rest
front_left places behind p text front rest is e =
    ap (λ ps. words_at ps text) is
    ∙ ap (λ o. option_map_or {U = List Word} (λ c. record { place = p; text = c.0 } ∷ words_at behind c.1) o []) e

-- The words that a text of words has are these words.
words_again : (words : List Word) → AllByRecursion (λ w. HasNoFeed w.text) words
    → words_at (map (λ w. w.place) words) (text_of words) ≡ words
words_again [] h = refl
words_again (w ∷ ws) h =
    front_left (map (λ w. w.place) (w ∷ ws)) (map (λ w. w.place) ws) w.place (text_of (w ∷ ws)) w.text (text_of ws) refl
    (ap (cut_at 10) (append_assoc w.text (10 ∷ []) (text_of ws)) ∙ cut-again 10 w.text (text_of ws) h.0)
    ∙ ap (λ (vs : List Word). w ∷ vs) (words_again ws h.1)

words_are : (words : List Word) (places : List Place) (text : List ℕ) → AreKept words places text
    → words_at places text ≡ words
words_are words places text h = rw (h.places_are, h.text_is)
    (words_again words (recursion_from_All (λ (w : Word). HasNoFeed w.text) words h.no_feeds))

kept_with : (words : List Word) (w : Word) (places : List Place) (text : List ℕ) → AreKept words places text
    → HasNoFeed w.text → AreKept (words ++ w ∷ []) (places ++ w.place ∷ []) (text ++ w.text ++ 10 ∷ [])
kept_with words w places text h e = record {
  text_is = ap (λ (t : List ℕ). t ++ w.text ++ 10 ∷ []) h.text_is
      ∙ append_assoc (text_of words) w.text (10 ∷ [])
      ∙ ap (λ (t : List ℕ). text_of words ++ t) (sym (append-nil (w.text ++ 10 ∷ [])))
      ∙ sym (flat_map-append (λ (v : Word). v.text ++ 10 ∷ []) words (w ∷ []));
  places_are = ap (λ (ps : List Place). ps ++ w.place ∷ []) h.places_are
      ∙ sym (map-append (λ (v : Word). v.place) words (w ∷ []));
  no_feeds = All-append (λ (v : Word). HasNoFeed v.text) words (w ∷ []) h.no_feeds
      (All-cons (λ (v : Word). HasNoFeed v.text) w [] e (All-nil (λ (v : Word). HasNoFeed v.text)));
}

-- Behind one more word.
pub words_with : (words : List Word) (w : Word) (places places' : List Place) (text text' : List ℕ)
    → AreKept words places text → HasNoFeed w.text
    → places' ≡ places ++ w.place ∷ [] → text' ≡ text ++ w.text ++ 10 ∷ []
    → (words_at places' text' ≡ words ++ w ∷ []) × AreKept (words_at places' text') places' text'
words_with words w places places' text text' h e p t =
    let k : AreKept (words ++ w ∷ []) places' text' = rw (p, t) (kept_with words w places text h e) in
    let is : words_at places' text' ≡ words ++ w ∷ [] = words_are (words ++ w ∷ []) places' text' k in
    (is, rw (is) k)

lines_again : (words : List Word) → AllByRecursion (λ w. HasNoFeed w.text) words
    → lines_of (text_of words) ≡ map (λ w. w.text) words
lines_again [] h = refl
lines_again (w ∷ ws) h =
    lines_step (text_of (w ∷ ws)) w.text (text_of ws)
    (ap (or_all (text_of (w ∷ ws))) (ap (cut_at 10) (append_assoc w.text (10 ∷ []) (text_of ws)) ∙ cut-again 10 w.text (text_of ws) h.0))
    ∙ ap (λ (texts : List (List ℕ)). w.text ∷ texts) (lines_again ws h.1)

-- The lines of a text of words are the texts of these words.
pub lines_are : (words : List Word) (places : List Place) (text : List ℕ) → AreKept words places text
    → lines_of text ≡ map (λ w. w.text) words
lines_are words places text h = rw (h.text_is)
    (lines_again words (recursion_from_All (λ (w : Word). HasNoFeed w.text) words h.no_feeds))
