-- One more line, in the text and in the places.
use Rattle.std.proofs.Common.{◌≡◌, ℕ, zero, suc, ◌+◌, ◌==◌, List, [], ◌∷◌, ◌++◌, length, map, refl, ap, sym, subst, ◌∙◌, arith, add-zero, append_assoc, append-nil}
use Rattle.std.specs.List.{AllByRecursion}
use Rattle.std.proofs.lemmas.Bool.{cond-false, or_parts}
use Rattle.std.proofs.lemmas.List.{map-append}
use Rattle.std.proofs.lemmas.List.Concat.{flat_map-append}
use Rattle.std.proofs.lemmas.List.Elements.{All-nil, All-cons, All-append, All-from_recursion, recursion_from_All}
use Rattle.acl_text.specs.declared.faults.Place.{Place}
use Rattle.acl_text.specs.declared.file_lines.Line.{Line}
use Rattle.acl_text.specs.Cursors.{onto_first, lines_of}
use Rattle.acl_text.specs.Cuts.{has_byte}
use Rattle.acl_words.specs.LineTexts.{AreKept, HasNoFeed, lines_at, placed, text_of}
use Rattle.acl_words.specs.FileLines.{lines_from, with_end}
use Rattle.acl_words.specs.Stretches.{places_from}
use Rattle.acl_words.proofs.FeedLaws.{lines_have_none}
use Rattle.acl_words.proofs.FileTextLaws.{joined, joined_again}

-- ---- places

pub places_step : (file first count : ℕ)
    → places_from file first (count + 1) ≡ places_from file first count ++ record { file = file; line = first + count } ∷ []
places_step file first zero = ap (λ n. record { file = file; line = n } ∷ []) (sym (add-zero first))
places_step file first (suc count) =
    let e : first + 1 + count ≡ first + suc count = omega arith in
    let more : suc count + 1 ≡ suc (count + 1) = omega arith in
    ap (places_from file first) more ∙ ap (λ ps. record { file = file; line = first } ∷ ps)
    (places_step file (first + 1) count ∙ ap (λ n. places_from file (first + 1) count ++ record { file = file; line = n } ∷ []) e)

-- ---- texts

first_line_is : (xs ys : List ℕ) → HasNoFeed xs → lines_of (xs ++ 10 ∷ ys) ≡ xs ∷ lines_of ys
first_line_is [] ys h = refl
first_line_is (x ∷ xs) ys h =
    let p = or_parts (x == 10) (has_byte 10 xs) h in
    cond-false (x == 10) _ _ p.0 ∙ ap (onto_first x) (first_line_is xs ys p.1)

lines_again : (lines : List Line) → AllByRecursion (λ l. HasNoFeed l.text) lines
    → lines_at (map (λ l. l.place) lines) (text_of lines) ≡ lines
lines_again [] h = refl
lines_again (l ∷ ls) h =
    ap (λ (t : List ℕ). lines_at (l.place ∷ map (λ l. l.place) ls) t) (append_assoc l.text (10 ∷ []) (text_of ls))
    ∙ ap (λ (ts : List (List ℕ)). placed (l.place ∷ map (λ l. l.place) ls) ts) (first_line_is l.text (text_of ls) h.0)
    ∙ ap (λ (ms : List Line). l ∷ ms) (lines_again ls h.1)

-- ---- what is kept

-- The lines that the places and the text of kept lines tell are those lines.
pub lines_are : (lines : List Line) (places : List Place) (text : List ℕ) → AreKept lines places text
    → lines_at places text ≡ lines
lines_are lines places text h =
    ap (λ (ps : List Place). lines_at ps text) h.places_are
    ∙ ap (λ (t : List ℕ). lines_at (map (λ l. l.place) lines) t) h.text_is
    ∙ lines_again lines (recursion_from_All (λ (l : Line). HasNoFeed l.text) lines h.no_feeds)

kept_with : (lines : List Line) (l : Line) (places : List Place) (text : List ℕ) → AreKept lines places text
    → HasNoFeed l.text → AreKept (lines ++ l ∷ []) (places ++ l.place ∷ []) (text ++ l.text ++ 10 ∷ [])
kept_with lines l places text h e = record {
  text_is = ap (λ (t : List ℕ). t ++ l.text ++ 10 ∷ []) h.text_is
      ∙ append_assoc (text_of lines) l.text (10 ∷ [])
      ∙ ap (λ (t : List ℕ). text_of lines ++ t) (sym (append-nil (l.text ++ 10 ∷ [])))
      ∙ sym (flat_map-append (λ (l : Line). l.text ++ 10 ∷ []) lines (l ∷ []));
  places_are = ap (λ (ps : List Place). ps ++ l.place ∷ []) h.places_are
      ∙ sym (map-append (λ (l : Line). l.place) lines (l ∷ []));
  no_feeds = All-append (λ (l : Line). HasNoFeed l.text) lines (l ∷ []) h.no_feeds
      (All-cons (λ (l : Line). HasNoFeed l.text) l [] e (All-nil (λ (l : Line). HasNoFeed l.text)));
}

-- Behind one more line.
pub lines_with : (lines : List Line) (l : Line) (places places' : List Place) (text text' : List ℕ)
    → AreKept lines places text → HasNoFeed l.text
    → places' ≡ places ++ l.place ∷ [] → text' ≡ text ++ l.text ++ 10 ∷ []
    → (lines_at places' text' ≡ lines ++ l ∷ []) × AreKept (lines_at places' text') places' text'
lines_with lines l places places' text text' h e p t =
    let k : AreKept (lines ++ l ∷ []) places' text' =
    subst (λ (ps : List Place). AreKept (lines ++ l ∷ []) ps text') (sym p)
    (subst (λ (x : List ℕ). AreKept (lines ++ l ∷ []) (places ++ l.place ∷ []) x) (sym t) (kept_with lines l places text h e)) in
    let w : lines_at places' text' ≡ lines ++ l ∷ [] = lines_are (lines ++ l ∷ []) places' text' k in
    (w, subst (λ (ls : List Line). AreKept ls places' text') (sym w) k)

-- ---- the lines of a file

lines_text : (file n : ℕ) (texts : List (List ℕ)) → text_of (lines_from file n texts) ≡ joined texts
lines_text file n [] = refl
lines_text file n (t ∷ ts) = ap (λ (more : List ℕ). (t ++ 10 ∷ []) ++ more) (lines_text file (n + 1) ts)

lines_places : (file n : ℕ) (texts : List (List ℕ)) → map (λ l. l.place) (lines_from file n texts) ≡ places_from file n (length texts)
lines_places file n [] = refl
lines_places file n (t ∷ ts) = ap (λ ps. record { file = file; line = n } ∷ ps) (lines_places file (n + 1) ts)

lines_clean : (file n : ℕ) (texts : List (List ℕ)) → AllByRecursion HasNoFeed texts
    → AllByRecursion (λ (l : Line). HasNoFeed l.text) (lines_from file n texts)
lines_clean file n [] h = tt
lines_clean file n (t ∷ ts) h = (h.0, lines_clean file (n + 1) ts h.1)

kept_file : (lines : List Line) (file : ℕ) (bytes : List ℕ) (places : List Place) (text : List ℕ) → AreKept lines places text
    → AreKept (lines ++ lines_from file 1 (lines_of bytes)) (places ++ places_from file 1 (length (lines_of bytes))) (text ++ with_end bytes)
kept_file lines file bytes places text h =
    let more : List Line = lines_from file 1 (lines_of bytes) in
    record {
      text_is = ap (λ (t : List ℕ). t ++ with_end bytes) h.text_is
          ∙ ap (λ (t : List ℕ). text_of lines ++ t) (sym (lines_text file 1 (lines_of bytes) ∙ joined_again bytes))
          ∙ sym (flat_map-append (λ (l : Line). l.text ++ 10 ∷ []) lines more);
      places_are = ap (λ (ps : List Place). ps ++ places_from file 1 (length (lines_of bytes))) h.places_are
          ∙ ap (λ (ps : List Place). map (λ (l : Line). l.place) lines ++ ps) (sym (lines_places file 1 (lines_of bytes)))
          ∙ sym (map-append (λ (l : Line). l.place) lines more);
      no_feeds = All-append (λ (l : Line). HasNoFeed l.text) lines more h.no_feeds
          (All-from_recursion (λ (l : Line). HasNoFeed l.text) more (lines_clean file 1 (lines_of bytes) (lines_have_none bytes)));
    }

-- Behind the lines of a file.
pub lines_with_file : (lines : List Line) (file : ℕ) (bytes : List ℕ) (places places' : List Place) (text text' : List ℕ)
    → AreKept lines places text
    → places' ≡ places ++ places_from file 1 (length (lines_of bytes)) → text' ≡ text ++ with_end bytes
    → (lines_at places' text' ≡ lines ++ lines_from file 1 (lines_of bytes)) × AreKept (lines_at places' text') places' text'
lines_with_file lines file bytes places places' text text' h p t =
    let all : List Line = lines ++ lines_from file 1 (lines_of bytes) in
    let k : AreKept all places' text' =
    subst (λ (ps : List Place). AreKept all ps text') (sym p)
    (subst (λ (x : List ℕ). AreKept all (places ++ places_from file 1 (length (lines_of bytes))) x) (sym t) (kept_file lines file bytes places text h)) in
    let w : lines_at places' text' ≡ all = lines_are all places' text' k in
    (w, subst (λ (ls : List Line). AreKept ls places' text') (sym w) k)
