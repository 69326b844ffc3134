-- Printed words are read as these words.
use Rattle.std.proofs.Common.{◌≡◌, ℕ, ◌-◌, ◌<◌, ◌==◌, Bool, true, false, not, ◌&&◌, ◌||◌, List, [], ◌∷◌, ◌++◌, map, flat_map, length, drop, None, refl, ap, sym, subst, ◌∙◌, append_assoc, append-nil, length-append, codes, arith}
use Rattle.std.specs.List.{AllByRecursion, list_all, list_any}
use Rattle.std.specs.Option.{option_map_or}
use Rattle.std.specs.Str.{bytes_eq}
use Rattle.std.proofs.lemmas.Bool.Decides.{nat_tests}
use Rattle.acl_text.specs.Cursors.{is_white}
use Rattle.acl_text.specs.declared.faults.Place.{Place}
use Rattle.acl_words.specs.declared.forms.Form.{Form}
use Rattle.acl_words.specs.declared.forms.Form.TheVariants as forms
use Rattle.acl_words.specs.Tokens.{Token}
use Rattle.acl_words.specs.Bytes.{is_mark, in_run, is_printed, first_bad, ends_in_colon}
use Rattle.acl_words.specs.Words.{word, part_word, last_part, split_run, OpenPart, Between, Run, String, opened_mode, brace, mode_behind, words_at, words_in, mode_in, line_words, line_mode, words_from, words_of}
use Rattle.acl_policy.specs.Conditions.{Each}
use Rattle.acl_policy.specs.Policies.{policy_of}
use Rattle.policy_grammar.specs.PrintedWords.{begins_with_colon, has_colons, is_word_byte, IsPlainText, IsQuotedText, TextIs, IsPrintable, printed, SpacedWord, spaced_text, IsSpaced, PrintedLine, printed_line, LineIsPrinted, printed_words, PrintedTextsAreRead}
use Rattle.policy_grammar.proofs.Outcomes.{and_left, and_right, if_true, if_false}
use Rattle.policy_grammar.proofs.BlockLaws.{text_read}

-- Bytes that are read from one mode to another, and the words that end within them.
record Reads (p : Place) (m : OpenPart) (bytes : List ℕ) (ws : List Token) (n : OpenPart) : Type 0 where
  words_are : words_in p m bytes ≡ ws
  mode_is : mode_in p m bytes ≡ n

words_on : (p : Place) (m : OpenPart) (xs ys : List ℕ) → words_in p m (xs ++ ys) ≡ words_in p m xs ++ words_in p (mode_in p m xs) ys
words_on p m [] ys = refl
words_on p m (x ∷ xs) ys =
    ap (λ ws. words_at m p x ++ ws) (words_on p (mode_behind m p x) xs ys)
    ∙ sym (append_assoc (words_at m p x) (words_in p (mode_behind m p x) xs) (words_in p (mode_in p (mode_behind m p x) xs) ys))

mode_on : (p : Place) (m : OpenPart) (xs ys : List ℕ) → mode_in p m (xs ++ ys) ≡ mode_in p (mode_in p m xs) ys
mode_on p m [] ys = refl
mode_on p m (x ∷ xs) ys = mode_on p (mode_behind m p x) xs ys

reads_then : (p : Place) (m n o : OpenPart) (xs ys : List ℕ) (vs ws : List Token) → Reads p m xs vs n → Reads p n ys ws o
    → Reads p m (xs ++ ys) (vs ++ ws) o
reads_then p m n o xs ys vs ws h k = record {
  words_are = words_on p m xs ys ∙ (λ i. h.words_are i ++ words_in p (h.mode_is i) ys) ∙ ap (λ us. vs ++ us) k.words_are;
  mode_is = mode_on p m xs ys ∙ ap (λ q. mode_in p q ys) h.mode_is ∙ k.mode_is;
}

reads_byte : (p : Place) (m n o : OpenPart) (b : ℕ) (bs : List ℕ) (ws : List Token) → words_at m p b ≡ [] → mode_behind m p b ≡ n
    → Reads p n bs ws o
    → Reads p m (b ∷ bs) ws o
reads_byte p m n o b bs ws e f h = record {
  words_are = (λ i. e i ++ words_in p (f i) bs) ∙ h.words_are;
  mode_is = ap (λ q. mode_in p q bs) f ∙ h.mode_is;
}

-- What stands between words: white space, and a line's end.
record IsGap (b : ℕ) : Type 0 where
  no_quote : (b == 34) ≡ false
  no_hash : (b == 35) ≡ false
  no_begin : (b == 123) ≡ false
  no_end : (b == 125) ≡ false
  no_run : in_run b ≡ false

white_is_gap : (b : ℕ) → is_white b ≡ true → IsGap b
white_is_gap b h = record {
  no_quote = grind (arith, nat_tests);
  no_hash = grind (arith, nat_tests);
  no_begin = grind (arith, nat_tests);
  no_end = grind (arith, nat_tests);
  no_run = ap (λ c. not (c || b == 10) && not (is_mark b)) h;
}

end_is_gap : IsGap 10
end_is_gap = record { no_quote = refl; no_hash = refl; no_begin = refl; no_end = refl; no_run = refl }

gap_opens : (p : Place) (b : ℕ) → IsGap b → opened_mode p b ≡ Between
gap_opens p b h =
    if_false (b == 34) _ _ h.no_quote ∙ if_false (b == 35) _ _ h.no_hash ∙ if_false (in_run b) _ _ h.no_run

gap_words : (p : Place) (b : ℕ) → IsGap b → brace p b ≡ []
gap_words p b h = if_false (b == 123) _ _ h.no_begin ∙ if_false (b == 125) _ _ h.no_end

gap_reads : (p : Place) (gap : List ℕ) → list_all is_white gap ≡ true → Reads p Between gap [] Between
gap_reads p [] h = record { words_are = refl; mode_is = refl }
gap_reads p (b ∷ bs) h =
    let g : IsGap b = white_is_gap b (and_left (is_white b) (list_all is_white bs) h) in
    reads_byte p Between Between Between b bs [] (gap_words p b g) (gap_opens p b g)
    (gap_reads p bs (and_right (is_white b) (list_all is_white bs) h))

-- The bytes of a run.
record IsRunByte (b : ℕ) : Type 0 where
  no_quote : (b == 34) ≡ false
  no_hash : (b == 35) ≡ false
  no_begin : (b == 123) ≡ false
  no_end : (b == 125) ≡ false

not_any : (x y : Bool) → (not x && not y) ≡ true → y ≡ false
not_any false false h = refl
not_any false true h = cc
not_any true y h = cc

or_first : (x y : Bool) → (x || y) ≡ false → x ≡ false
or_first false y h = refl
or_first true y h = h

or_rest : (x y : Bool) → (x || y) ≡ false → y ≡ false
or_rest false y h = h
or_rest true y h = cc

no_mark : (x y z u : Bool) → (x || y || z || u) ≡ false → (x ≡ false) × (y ≡ false) × (z ≡ false) × (u ≡ false)
no_mark false false false false h = (refl, refl, refl, refl)
no_mark false false false true h = cc
no_mark false false true u h = cc
no_mark false true z u h = cc
no_mark true y z u h = cc

run_byte : (b : ℕ) → in_run b ≡ true → IsRunByte b
run_byte b h =
    let parts = no_mark (b == 34) (b == 35) (b == 123) (b == 125) (not_any (is_white b || b == 10) (is_mark b) h) in
    record { no_quote = parts.0; no_hash = parts.1; no_begin = parts.2; no_end = parts.3 }

run_on : (p from : Place) (text bs : List ℕ) → list_all is_word_byte bs ≡ true
    → Reads p (Run from text) bs [] (Run from (text ++ bs))
run_on p from text [] h = record { words_are = refl; mode_is = ap (Run from) (sym (append-nil text)) }
run_on p from text (b ∷ bs) h =
    let r : in_run b ≡ true = and_left (in_run b) (is_printed b) (and_left (is_word_byte b) (list_all is_word_byte bs) h) in
    let rest : Reads p (Run from (text ++ b ∷ [])) bs [] (Run from ((text ++ b ∷ []) ++ bs)) =
    run_on p from (text ++ b ∷ []) bs (and_right (is_word_byte b) (list_all is_word_byte bs) h) in
    subst (λ t. Reads p (Run from text) (b ∷ bs) [] (Run from t)) (append_assoc text (b ∷ []) bs)
    (reads_byte p (Run from text) (Run from (text ++ b ∷ [])) (Run from ((text ++ b ∷ []) ++ bs)) b bs []
    (if_true (in_run b) _ _ r) (if_true (in_run b) _ _ r) rest)

byte_runs : (b : ℕ) (bs : List ℕ) → list_all is_word_byte (b ∷ bs) ≡ true → in_run b ≡ true
byte_runs b bs h = and_left (in_run b) (is_printed b) (and_left (is_word_byte b) (list_all is_word_byte bs) h)

run_begins : (p : Place) (text : List ℕ) → 0 < length text → list_all is_word_byte text ≡ true
    → Reads p Between text [] (Run p text)
run_begins p [] n h = absurd (omega (arith, n))
run_begins p (b ∷ bs) n h =
    let r : in_run b ≡ true = byte_runs b bs h in
    let c : IsRunByte b = run_byte b r in
    reads_byte p Between (Run p (b ∷ [])) (Run p (b ∷ bs)) b bs []
    (if_false (b == 123) _ _ c.no_begin ∙ if_false (b == 125) _ _ c.no_end)
    (if_false (b == 34) _ _ c.no_quote ∙ if_false (b == 35) _ _ c.no_hash ∙ if_true (in_run b) _ _ r)
    (run_on p p (b ∷ []) bs (and_right (is_word_byte b) (list_all is_word_byte bs) h))

run_ends : (p : Place) (text : List ℕ) (b : ℕ) → IsGap b → Reads p (Run p text) (b ∷ []) (split_run p [] text) Between
run_ends p text b g = record {
  words_are =
      append-nil (words_at (Run p text) p b)
      ∙ if_false (in_run b) _ _ g.no_run
      ∙ ap (λ ws. split_run p [] text ++ ws) (gap_words p b g)
      ∙ append-nil (split_run p [] text);
  mode_is = if_false (in_run b) _ _ g.no_run ∙ gap_opens p b g;
}

-- Where a run is split.
drop_front : (xs ys : List ℕ) → drop (length xs) (xs ++ ys) ≡ ys
drop_front [] ys = refl
drop_front (x ∷ xs) ys = drop_front xs ys

last_colon : (b : ℕ) → ends_in_colon (b ∷ []) ≡ (b == 58)
last_colon b = grind (arith, nat_tests)

ends : (part : List ℕ) (b : ℕ) → ends_in_colon (part ++ b ∷ []) ≡ (b == 58)
ends part b =
    let n : length (part ++ b ∷ []) - 1 ≡ length part = omega (arith, length-append part (b ∷ [])) in
    ap (λ k. bytes_eq (58 ∷ []) (drop k (part ++ b ∷ []))) n
    ∙ ap (bytes_eq (58 ∷ [])) (drop_front part (b ∷ []))
    ∙ last_colon b

split_past : (p : Place) (part bs rest : List ℕ) → (ends_in_colon part && begins_with_colon bs) ≡ false → has_colons bs ≡ false
    → split_run p part (bs ++ rest) ≡ split_run p (part ++ bs) rest
split_past p part [] rest h k = ap (λ t. split_run p t rest) (sym (append-nil part))
split_past p part (b ∷ bs) rest h k =
    if_false (ends_in_colon part && b == 58) _ _ h
    ∙ split_past p (part ++ b ∷ []) bs rest
    (ap (λ c. c && begins_with_colon bs) (ends part b) ∙ or_first (b == 58 && begins_with_colon bs) (has_colons bs) k)
    (or_rest (b == 58 && begins_with_colon bs) (has_colons bs) k)
    ∙ ap (λ t. split_run p t rest) (append_assoc part (b ∷ []) bs)

none_bad : (text : List ℕ) → list_all is_word_byte text ≡ true → first_bad text ≡ None
none_bad [] h = refl
none_bad (b ∷ bs) h =
    if_true (is_printed b) _ _ (and_right (in_run b) (is_printed b) (and_left (is_word_byte b) (list_all is_word_byte bs) h))
    ∙ none_bad bs (and_right (is_word_byte b) (list_all is_word_byte bs) h)

part_is : (p : Place) (form : Form) (text : List ℕ) → list_all is_word_byte text ≡ true → part_word p form text ≡ word p form text
part_is p form text h = ap (λ o. option_map_or {U = Token} (λ b. word p forms.Bad (b ∷ [])) o (word p form text)) (none_bad text h)

last_is : (p : Place) (text : List ℕ) → 0 < length text → list_all is_word_byte text ≡ true
    → last_part p text ≡ word p forms.Plain text ∷ []
last_is p [] n h = absurd (omega (arith, n))
last_is p (b ∷ bs) n h = ap (λ w. w ∷ []) (part_is p forms.Plain (b ∷ bs) h)

plain_splits : (p : Place) (text : List ℕ) → IsPlainText text → split_run p [] text ≡ word p forms.Plain text ∷ []
plain_splits p text h =
    ap (split_run p []) (sym (append-nil text))
    ∙ split_past p [] text [] refl h.no_colons
    ∙ last_is p text h.some_byte h.bytes_are

all_on : (p : ℕ → Bool) (xs ys : List ℕ) → list_all p xs ≡ true → list_all p ys ≡ true → list_all p (xs ++ ys) ≡ true
all_on p [] ys h k = k
all_on p (x ∷ xs) ys h k =
    ap (λ c. c && list_all p (xs ++ ys)) (and_left (p x) (list_all p xs) h) ∙ all_on p xs ys (and_right (p x) (list_all p xs) h) k

keyword_splits : (p : Place) (front : List ℕ) → list_all is_word_byte front ≡ true → has_colons (front ++ codes ":") ≡ false
    → split_run p [] (front ++ codes "::") ≡ word p forms.Keyword (front ++ codes "::") ∷ []
keyword_splits p front h k =
    let text : List ℕ = front ++ codes ":" in
    let whole : text ++ codes ":" ≡ front ++ codes "::" = append_assoc front (codes ":") (codes ":") in
    ap (split_run p []) (sym whole)
    ∙ split_past p [] text (codes ":") refl k
    ∙ if_true (ends_in_colon text && true) _ _ (ap (λ c. c && true) (ends front 58))
    ∙ ap (λ t. part_word p forms.Keyword t ∷ []) whole
    ∙ ap (λ w. w ∷ []) (part_is p forms.Keyword (front ++ codes "::") (all_on is_word_byte front (codes "::") h refl))

-- Strings.
string_on : (p : Place) (text bs : List ℕ) → IsQuotedText bs → Reads p (String p text) bs [] (String p (text ++ bs))
string_on p text [] h = record { words_are = refl; mode_is = ap (String p) (sym (append-nil text)) }
string_on p text (b ∷ bs) h =
    let q : (b == 34) ≡ false = or_first (b == 34) (list_any (λ c. c == 34) bs) h in
    subst (λ t. Reads p (String p text) (b ∷ bs) [] (String p t)) (append_assoc text (b ∷ []) bs)
    (reads_byte p (String p text) (String p (text ++ b ∷ [])) (String p ((text ++ b ∷ []) ++ bs)) b bs []
    (if_false (b == 34) _ _ q) (if_false (b == 34) _ _ q)
    (string_on p (text ++ b ∷ []) bs (or_rest (b == 34) (list_any (λ c. c == 34) bs) h)))

string_read : (p : Place) (text : List ℕ) → IsQuotedText text
    → Reads p Between (34 ∷ text ++ 34 ∷ []) (word p forms.Quoted text ∷ []) Between
string_read p text h =
    reads_byte p Between (String p []) Between 34 (text ++ 34 ∷ []) (word p forms.Quoted text ∷ []) refl refl
    (reads_then p (String p []) (String p text) Between text (34 ∷ []) [] (word p forms.Quoted text ∷ []) (string_on p [] text h)
    (record { words_are = refl; mode_is = refl }))

-- A word and one byte of a gap.
gap_read : (p : Place) (b : ℕ) → IsGap b → Reads p Between (b ∷ []) [] Between
gap_read p b g = reads_byte p Between Between Between b [] [] (gap_words p b g) (gap_opens p b g)
    (record { words_are = refl; mode_is = refl })

text_read_at : (p : Place) (form : Form) (text : List ℕ) (b : ℕ) → TextIs form text → IsGap b
    → Reads p Between (printed form text ++ b ∷ []) (word p form text ∷ []) Between
text_read_at p forms.Plain text b h g =
    subst (λ ws. Reads p Between (text ++ b ∷ []) ws Between) (plain_splits p text h)
    (reads_then p Between (Run p text) Between text (b ∷ []) [] (split_run p [] text)
    (run_begins p text h.some_byte h.bytes_are) (run_ends p text b g))
text_read_at p forms.Keyword text b h g =
    let all : list_all is_word_byte (h.front ++ codes "::") ≡ true = all_on is_word_byte h.front (codes "::") h.bytes_are refl in
    subst (λ t. Reads p Between (t ++ b ∷ []) (word p forms.Keyword t ∷ []) Between) (sym h.text_is)
    (subst (λ ws. Reads p Between ((h.front ++ codes "::") ++ b ∷ []) ws Between) (keyword_splits p h.front h.bytes_are h.no_colons)
    (reads_then p Between (Run p (h.front ++ codes "::")) Between (h.front ++ codes "::") (b ∷ []) []
    (split_run p [] (h.front ++ codes "::"))
    (run_begins p (h.front ++ codes "::") (omega (arith, length-append h.front (codes "::"))) all)
    (run_ends p (h.front ++ codes "::") b g)))
text_read_at p forms.Begin text b h g =
    subst (λ t. Reads p Between (t ++ b ∷ []) (word p forms.Begin t ∷ []) Between) (sym h)
    (reads_then p Between Between Between (codes "{") (b ∷ []) (word p forms.Begin (codes "{") ∷ []) []
    (record { words_are = refl; mode_is = refl }) (gap_read p b g))
text_read_at p forms.End text b h g =
    subst (λ t. Reads p Between (t ++ b ∷ []) (word p forms.End t ∷ []) Between) (sym h)
    (reads_then p Between Between Between (codes "}") (b ∷ []) (word p forms.End (codes "}") ∷ []) []
    (record { words_are = refl; mode_is = refl }) (gap_read p b g))
text_read_at p forms.Quoted text b h g =
    reads_then p Between Between Between (34 ∷ text ++ 34 ∷ []) (b ∷ []) (word p forms.Quoted text ∷ []) []
    (string_read p text h) (gap_read p b g)
text_read_at p forms.Unclosed text b h g = absurd h
text_read_at p forms.Bad text b h g = absurd h

word_read : (p : Place) (w : Token) (b : ℕ) → IsPrintable p w → IsGap b
    → Reads p Between (printed w.form w.text ++ b ∷ []) (w ∷ []) Between
word_read p w b h g = subst (λ q. Reads p Between (printed w.form w.text ++ b ∷ []) (word q w.form w.text ∷ []) Between)
    (sym h.place_is)
    (text_read_at p w.form w.text b h.text_is g)

regrouped : (gap word more : List ℕ) → ((gap ++ word) ++ more) ++ 10 ∷ [] ≡ gap ++ (word ++ (more ++ 10 ∷ []))
regrouped gap word more = append_assoc (gap ++ word) more (10 ∷ []) ∙ append_assoc gap word (more ++ 10 ∷ [])

-- The words of a line behind a word, and the line's end.
rest_read : (p : Place) (w : Token) (before ss : List SpacedWord) → 0 < length before → IsPrintable p w
    → Each (IsSpaced p) before ss
    → Reads p Between (printed w.form w.text ++ (flat_map spaced_text ss ++ 10 ∷ [])) (w ∷ map (λ s. s.word) ss) Between
rest_read p w before [] n h each = word_read p w 10 h end_is_gap
rest_read p w before (s ∷ ss) n h each =
    by_gap s.gap (each.0.some_gap n) each.0.gap_is (rest_read p s.word (before ++ s ∷ []) ss more each.0.is_printable each.1)
  where
    more : 0 < length (before ++ s ∷ [])
    more = omega (arith, length-append before (s ∷ []))

    by_gap : (gap : List ℕ) → 0 < length gap → list_all is_white gap ≡ true
        → Reads p Between (printed s.word.form s.word.text ++ (flat_map spaced_text ss ++ 10 ∷ []))
        (s.word ∷ map (λ x. x.word) ss) Between
        → Reads p Between (printed w.form w.text ++
        (((gap ++ printed s.word.form s.word.text) ++ flat_map spaced_text ss) ++ 10 ∷ []))
        (w ∷ s.word ∷ map (λ x. x.word) ss) Between
    by_gap [] n g k = absurd (omega (arith, n))
    by_gap (b ∷ bs) n g k =
        let gap : IsGap b = white_is_gap b (and_left (is_white b) (list_all is_white bs) g) in
        let front : List ℕ = printed w.form w.text in
        let behind : List ℕ = printed s.word.form s.word.text ++ (flat_map spaced_text ss ++ 10 ∷ []) in
        subst (λ t. Reads p Between t (w ∷ s.word ∷ map (λ x. x.word) ss) Between)
        (append_assoc front (b ∷ []) (bs ++ behind)
        ∙ ap (λ x. front ++ b ∷ x) (sym (regrouped bs (printed s.word.form s.word.text) (flat_map spaced_text ss))))
        (reads_then p Between Between Between (front ++ b ∷ []) (bs ++ behind) (w ∷ []) (s.word ∷ map (λ x. x.word) ss)
        (word_read p w b h gap)
        (reads_then p Between Between Between bs behind [] (s.word ∷ map (λ x. x.word) ss)
        (gap_reads p bs (and_right (is_white b) (list_all is_white bs) g)) k))

line_read : (p : Place) (ss : List SpacedWord) → Each (IsSpaced p) [] ss
    → Reads p Between (flat_map spaced_text ss ++ 10 ∷ []) (map (λ s. s.word) ss) Between
line_read p [] each = gap_read p 10 end_is_gap
line_read p (s ∷ ss) each =
    subst (λ t. Reads p Between t (s.word ∷ map (λ x. x.word) ss) Between)
    (sym (regrouped s.gap (printed s.word.form s.word.text) (flat_map spaced_text ss)))
    (reads_then p Between Between Between s.gap (printed s.word.form s.word.text ++ (flat_map spaced_text ss ++ 10 ∷ [])) []
    (s.word ∷ map (λ x. x.word) ss)
    (gap_reads p s.gap each.0.gap_is) (rest_read p s.word (s ∷ []) ss (omega arith) each.0.is_printable each.1))

line_words_are : (l : PrintedLine) → LineIsPrinted l → line_words (printed_line l) Between ≡ map (λ s. s.word) l.words
line_words_are l h =
    let text : List ℕ = flat_map spaced_text l.words in
    ap (λ ws. words_in l.place Between text ++ ws) (sym (append-nil (words_at (mode_in l.place Between text) l.place 10)))
    ∙ sym (words_on l.place Between text (10 ∷ []))
    ∙ (line_read l.place l.words h).words_are

line_mode_is : (l : PrintedLine) → LineIsPrinted l → line_mode (printed_line l) Between ≡ Between
line_mode_is l h = sym (mode_on l.place Between (flat_map spaced_text l.words) (10 ∷ [])) ∙ (line_read l.place l.words h).mode_is

lines_read : (ls : List PrintedLine) → AllByRecursion LineIsPrinted ls → words_from Between (map printed_line ls) ≡ printed_words ls
lines_read [] h = refl
lines_read (l ∷ ls) h =
    (λ i. line_words_are l h.0 i ++ words_from (line_mode_is l h.0 i) (map printed_line ls))
    ∙ ap (λ ws. map (λ s. s.word) l.words ++ ws) (lines_read ls h.1)

pub printed_read : (ls : List PrintedLine) → AllByRecursion LineIsPrinted ls → words_of (map printed_line ls) ≡ printed_words ls
unfolding words_of
printed_read ls h = lines_read ls h

pub printed_texts_read : PrintedTextsAreRead
printed_texts_read text lines h k e = ap policy_of (printed_read lines k ∙ e) ∙ text_read text h
