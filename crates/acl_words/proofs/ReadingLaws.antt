-- What is read at the front of a text: white space, a comment, a string, or a part of a run. And a text of lines has
-- the words of the lines.
use Rattle.std.proofs.Common.{◌≡◌, ℕ, ◌==◌, ◌&&◌, true, false, if◌then◌else◌, List, [], ◌∷◌, ◌++◌, map, None, Some, inl, inr, refl, ap, sym, ◌∙◌, arith, append_assoc, append-nil}
use Rattle.std.specs.List.{AllByRecursion}
use Rattle.std.proofs.lemmas.Bool.{cases_Bool, cond-true, cond-false, or_parts}
use Rattle.std.proofs.lemmas.List.Elements.{recursion_from_All}
use Rattle.acl_text.specs.declared.faults.Place.{Place}
use Rattle.acl_text.specs.declared.file_lines.Line.{Line}
use Rattle.acl_text.specs.Cuts.{cut_at, has_byte}
use Rattle.acl_text.proofs.CutLaws.{cut-found, none-cut}
use Rattle.acl_words.specs.LineTexts.{HasNoFeed, HaveNoFeeds, text_of}
use Rattle.acl_words.specs.declared.forms.Form.{Form}
use Rattle.acl_words.specs.declared.forms.Form.TheVariants as forms
use Rattle.acl_words.specs.Tokens.{Token}
use Rattle.acl_words.specs.Bytes.{in_run, ends_in_colon}
use Rattle.acl_words.specs.Words.{word, part_word, split_run, OpenPart, Between, Comment, Run, String, opened_mode, brace, mode_behind, words_at, words_in, mode_in, line_mode, words_at_end, words_from, words_of}
use Rattle.acl_words.specs.ReadingSteps.{Reached, reached, next_reached, reached_behind, reached_past, words_on, is_blank, first_part}

-- ---- white space

brace_blank : (place : Place) (b : ℕ) → is_blank b ≡ true → brace place b ≡ []
brace_blank place b h = grind arith

opened_blank : (place : Place) (b : ℕ) → is_blank b ≡ true → opened_mode place b ≡ Between
opened_blank place b h = grind arith

pub blank_read : (b : ℕ) (bs : List ℕ) (r : Reached) → is_blank b ≡ true
    → words_on Between r (b ∷ bs) ≡ words_on Between (reached_behind b r) bs
blank_read b bs r h =
    ap (λ (ws : List Token). ws ++ words_on (opened_mode r.place b) (reached_behind b r) bs) (brace_blank r.place b h)
    ∙ ap (λ (m : OpenPart). words_on m (reached_behind b r) bs) (opened_blank r.place b h)

-- ---- comments

in_comment : (xs ys : List ℕ) (r : Reached) → has_byte 10 xs ≡ false
    → words_on Comment r (xs ++ 10 ∷ ys) ≡ words_on Between (reached_behind 10 r) ys
in_comment [] ys r h = refl
in_comment (x ∷ xs) ys r h =
    let p = or_parts (x == 10) (has_byte 10 xs) h in
    rw (p.0) (in_comment xs ys r p.1)

comment_ends : (xs : List ℕ) (r : Reached) → has_byte 10 xs ≡ false → words_on Comment r xs ≡ []
comment_ends [] r h = refl
comment_ends (x ∷ xs) r h =
    let p = or_parts (x == 10) (has_byte 10 xs) h in
    rw (p.0) (comment_ends xs r p.1)

pub comment_read : (bs xs ys : List ℕ) (r : Reached) → cut_at 10 bs ≡ Some (xs, ys)
    → words_on Between r (35 ∷ bs) ≡ words_on Between (reached_behind 10 r) ys
comment_read bs xs ys r e =
    let p = cut-found 10 bs xs ys e in
    ap (λ (t : List ℕ). words_on Comment r t) p.0 ∙ in_comment xs ys r p.1

pub last_comment_read : (bs : List ℕ) (r : Reached) → cut_at 10 bs ≡ None → words_on Between r (35 ∷ bs) ≡ []
last_comment_read bs r e = comment_ends bs r (none-cut 10 bs e)

-- ---- strings

in_string : (place : Place) (text xs ys : List ℕ) (r : Reached) → has_byte 34 xs ≡ false
    → words_on (String place text) r (xs ++ 34 ∷ ys)
    ≡ word place forms.Quoted (text ++ xs) ∷ words_on Between (reached_past xs r) ys
in_string place text [] ys r h =
    ap (λ (t : List ℕ). word place forms.Quoted t ∷ words_on Between r ys) (sym (append-nil text))
in_string place text (x ∷ xs) ys r h =
    let p = or_parts (x == 34) (has_byte 34 xs) h in
    rw (p.0) (in_string place (text ++ x ∷ []) xs ys (reached_behind x r) p.1
    ∙ ap (λ (t : List ℕ). word place forms.Quoted t ∷ words_on Between (reached_past xs (reached_behind x r)) ys)
    (append_assoc text (x ∷ []) xs))

string_stays : (place : Place) (text xs : List ℕ) (r : Reached) → has_byte 34 xs ≡ false
    → words_on (String place text) r xs ≡ word place forms.Unclosed (34 ∷ []) ∷ []
string_stays place text [] r h = refl
string_stays place text (x ∷ xs) r h =
    let p = or_parts (x == 34) (has_byte 34 xs) h in
    rw (p.0) (string_stays place (text ++ x ∷ []) xs (reached_behind x r) p.1)

pub string_read : (bs xs ys : List ℕ) (r : Reached) → cut_at 34 bs ≡ Some (xs, ys)
    → words_on Between r (34 ∷ bs) ≡ word r.place forms.Quoted xs ∷ words_on Between (reached_past xs r) ys
string_read bs xs ys r e =
    let p = cut-found 34 bs xs ys e in
    ap (λ (t : List ℕ). words_on (String r.place []) r t) p.0 ∙ in_string r.place [] xs ys r p.1

pub open_string_read : (bs : List ℕ) (r : Reached) → cut_at 34 bs ≡ None
    → words_on Between r (34 ∷ bs) ≡ word r.place forms.Unclosed (34 ∷ []) ∷ []
open_string_read bs r e = string_stays r.place [] bs r (none-cut 34 bs e)

-- ---- runs

no_feed : (b : ℕ) → in_run b ≡ true → (b == 10) ≡ false
no_feed b h = grind arith

opened_run : (place : Place) (b : ℕ) → in_run b ≡ true → opened_mode place b ≡ Run place (b ∷ [])
opened_run place b h = grind arith

brace_run : (place : Place) (b : ℕ) → in_run b ≡ true → brace place b ≡ []
brace_run place b h = grind arith

run_goes_on : (text bs : List ℕ) (b : ℕ) (place : Place) (r : Reached) → in_run b ≡ true
    → words_on (Run place text) r (b ∷ bs) ≡ words_on (Run place (text ++ b ∷ [])) r bs
run_goes_on text bs b place r h = rw (h, no_feed b h) refl

run_begins : (bs : List ℕ) (b : ℕ) (r : Reached) → in_run b ≡ true
    → words_on Between r (b ∷ bs) ≡ words_on (Run r.place (b ∷ [])) r bs
run_begins bs b r h =
    ap (λ (ws : List Token). ws ++ words_on (opened_mode r.place b) (reached_behind b r) bs) (brace_run r.place b h)
    ∙ ap (λ (m : OpenPart). words_on m (reached_behind b r) bs) (opened_run r.place b h)
    ∙ ap (λ (q : Reached). words_on (Run r.place (b ∷ [])) q bs) (cond-false (b == 10) _ r (no_feed b h))

run_ends : (text bs : List ℕ) (b : ℕ) (place : Place) (r : Reached) → in_run b ≡ false
    → words_on (Run place text) r (b ∷ bs) ≡ split_run place [] text ++ words_on Between r (b ∷ bs)
run_ends text bs b place r h =
    ap (λ (ws : List Token). ws ++ words_on (mode_behind (Run place text) r.place b) (reached_behind b r) bs)
    (cond-false (in_run b) [] (split_run place [] text ++ brace r.place b) h)
    ∙ ap (λ (m : OpenPart). split_run place [] text ++ brace r.place b ++ words_on m (reached_behind b r) bs)
    (cond-false (in_run b) (Run place (text ++ b ∷ [])) (opened_mode r.place b) h)
    ∙ append_assoc (split_run place [] text) (brace r.place b) (words_on (opened_mode r.place b) (reached_behind b r) bs)

-- A run is open where it has a byte.
abbrev opened : Place → List ℕ → OpenPart
opened place [] = Between
opened place (b ∷ bs) = Run place (b ∷ bs)

opened_end : (text : List ℕ) (place : Place) → words_at_end (opened place text) ≡ split_run place [] text
opened_end [] place = refl
opened_end (b ∷ bs) place = refl

opened_goes_on : (text bs : List ℕ) (b : ℕ) (r : Reached) → in_run b ≡ true
    → words_on (opened r.place text) r (b ∷ bs) ≡ words_on (opened r.place (text ++ b ∷ [])) r bs
opened_goes_on [] bs b r h = run_begins bs b r h
opened_goes_on (t ∷ ts) bs b r h = run_goes_on (t ∷ ts) bs b r.place r h

opened_ends : (text bs : List ℕ) (b : ℕ) (r : Reached) → in_run b ≡ false
    → words_on (opened r.place text) r (b ∷ bs) ≡ split_run r.place [] text ++ words_on Between r (b ∷ bs)
opened_ends [] bs b r h = refl
opened_ends (t ∷ ts) bs b r h = run_ends (t ∷ ts) bs b r.place r h

-- The part is a keyword, whatever follows in the run.
abbrev IsKeyword : Place → List ℕ → Type 0
IsKeyword place part = (text : List ℕ) → split_run place [] (part ++ text) ≡ part_word place forms.Keyword part ∷ split_run place [] text

-- No `::` is within the part.
abbrev IsFront : Place → List ℕ → Type 0
IsFront place part = (text : List ℕ) → split_run place [] (part ++ text) ≡ split_run place part text

-- Behind a keyword the rest of the run is read as a run of its own.
behind_keyword : (part text bs : List ℕ) (r : Reached) → IsKeyword r.place part
    → words_on (Run r.place (part ++ text)) r bs ≡ part_word r.place forms.Keyword part ∷ words_on (opened r.place text) r bs
behind_keyword part text [] r k =
    k text ∙ ap (λ (ws : List Token). part_word r.place forms.Keyword part ∷ ws) (sym (opened_end text r.place))
behind_keyword part text (b ∷ bs) r k = elim (cases_Bool (in_run b)) [
  | inl h ↦ run_goes_on (part ++ text) bs b r.place r h
      ∙ ap (λ (t : List ℕ). words_on (Run r.place t) r bs) (append_assoc part text (b ∷ []))
      ∙ behind_keyword part (text ++ b ∷ []) bs r k
      ∙ ap (λ (ws : List Token). part_word r.place forms.Keyword part ∷ ws) (sym (opened_goes_on text bs b r h))
  | inr h ↦ run_ends (part ++ text) bs b r.place r h
      ∙ ap (λ (ws : List Token). ws ++ words_on Between r (b ∷ bs)) (k text)
      ∙ ap (λ (ws : List Token). part_word r.place forms.Keyword part ∷ ws) (sym (opened_ends text bs b r h))
]

keyword_with : (part : List ℕ) (b : ℕ) (place : Place) → IsFront place part → (ends_in_colon part && b == 58) ≡ true
    → IsKeyword place (part ++ b ∷ [])
keyword_with part b place f h text =
    ap (λ (t : List ℕ). split_run place [] t) (append_assoc part (b ∷ []) text)
    ∙ f (b ∷ text) ∙ cond-true (ends_in_colon part && b == 58) _ _ h

front_with : (part : List ℕ) (b : ℕ) (place : Place) → IsFront place part → (ends_in_colon part && b == 58) ≡ false
    → IsFront place (part ++ b ∷ [])
front_with part b place f h text =
    ap (λ (t : List ℕ). split_run place [] t) (append_assoc part (b ∷ []) text)
    ∙ f (b ∷ text) ∙ cond-false (ends_in_colon part && b == 58) _ _ h

whole_run : (x : ℕ) (xs : List ℕ) (place : Place) → IsFront place (x ∷ xs)
    → split_run place [] (x ∷ xs) ≡ part_word place forms.Plain (x ∷ xs) ∷ []
whole_run x xs place f = ap (λ (t : List ℕ). split_run place [] t) (sym (append-nil (x ∷ xs))) ∙ f []

-- The words of a text that begins with the part, from what is found of it.
abbrev pub part_and_rest : Reached → Form × List ℕ × List ℕ → List Token
part_and_rest r f = part_word r.place f.0 f.1 ∷ words_on Between r f.2

-- The part goes on with a byte of the run: it ends there as a keyword, or goes on as a front.
in_part : (x : ℕ) (xs bs : List ℕ) (b : ℕ) (r : Reached) → IsFront r.place (x ∷ xs)
    → (IsFront r.place (x ∷ xs ++ b ∷ []) → words_on (Run r.place (x ∷ xs ++ b ∷ [])) r bs ≡ part_and_rest r (first_part (x ∷ xs ++ b ∷ []) bs))
    → words_on (Run r.place (x ∷ xs ++ b ∷ [])) r bs
    ≡ part_and_rest r (if ends_in_colon (x ∷ xs) && b == 58 then (forms.Keyword, x ∷ xs ++ b ∷ [], bs) else first_part (x ∷ xs ++ b ∷ []) bs)
in_part x xs bs b r f again = elim (cases_Bool (ends_in_colon (x ∷ xs) && b == 58)) [
  | inl k ↦ ap (λ (t : List ℕ). words_on (Run r.place t) r bs) (sym (append-nil (x ∷ xs ++ b ∷ [])))
      ∙ behind_keyword (x ∷ xs ++ b ∷ []) [] bs r (keyword_with (x ∷ xs) b r.place f k)
      ∙ ap (part_and_rest r) (sym (cond-true (ends_in_colon (x ∷ xs) && b == 58) _ _ k))
  | inr k ↦ again (front_with (x ∷ xs) b r.place f k)
      ∙ ap (part_and_rest r) (sym (cond-false (ends_in_colon (x ∷ xs) && b == 58) _ _ k))
]

part_goes_on : (x : ℕ) (xs bs : List ℕ) (r : Reached) → IsFront r.place (x ∷ xs)
    → words_on (Run r.place (x ∷ xs)) r bs ≡ part_and_rest r (first_part (x ∷ xs) bs)
part_goes_on x xs [] r f = whole_run x xs r.place f
part_goes_on x xs (b ∷ bs) r f = elim (cases_Bool (in_run b)) [
  | inr h ↦ run_ends (x ∷ xs) bs b r.place r h
      ∙ ap (λ (ws : List Token). ws ++ words_on Between r (b ∷ bs)) (whole_run x xs r.place f)
      ∙ ap (part_and_rest r) (sym (cond-false (in_run b) _ _ h))
  | inl h ↦ run_goes_on (x ∷ xs) bs b r.place r h
      ∙ in_part x xs bs b r f (part_goes_on x (xs ++ b ∷ []) bs r)
      ∙ ap (part_and_rest r) (sym (cond-true (in_run b) _ _ h))
]

pub part_read : (b : ℕ) (bs : List ℕ) (r : Reached) → in_run b ≡ true
    → words_on Between r (b ∷ bs) ≡ part_and_rest r (first_part [] (b ∷ bs))
part_read b bs r h =
    run_begins bs b r h ∙ part_goes_on b [] bs r (λ text. refl)
    ∙ ap (part_and_rest r) (sym (cond-true (in_run b) _ _ h))

-- ---- lines

regrouped : {A : Type 0} (ws xs ys zs : List A) → ws ++ (xs ++ ys ++ zs) ≡ ws ++ xs ++ ys ++ zs
regrouped ws xs ys zs = sym (append_assoc ws (xs ++ ys) zs) ∙ ap (λ us. us ++ zs) (sym (append_assoc ws xs ys))

on_line : (xs ys : List ℕ) (m : OpenPart) (r : Reached) → HasNoFeed xs
    → words_on m r (xs ++ 10 ∷ ys) ≡ words_in r.place m xs ++ words_at (mode_in r.place m xs) r.place 10
    ++ words_on (mode_behind (mode_in r.place m xs) r.place 10) (next_reached r.place r.later) ys
on_line [] ys m r h = refl
on_line (x ∷ xs) ys m r h =
    let p = or_parts (x == 10) (has_byte 10 xs) h in
    ap (λ (q : Reached). words_at m r.place x ++ words_on (mode_behind m r.place x) q (xs ++ 10 ∷ ys)) (cond-false (x == 10) _ r p.0)
    ∙ ap (λ (ws : List Token). words_at m r.place x ++ ws) (on_line xs ys (mode_behind m r.place x) r p.1)
    ∙ regrouped (words_at m r.place x) (words_in r.place (mode_behind m r.place x) xs)
    (words_at (mode_in r.place (mode_behind m r.place x) xs) r.place 10)
    (words_on (mode_behind (mode_in r.place (mode_behind m r.place x) xs) r.place 10) (next_reached r.place r.later) ys)

on_lines : (lines : List Line) (m : OpenPart) (r : Reached) → AllByRecursion (λ (l : Line). HasNoFeed l.text) lines
    → words_on m (next_reached r.place (map (λ (l : Line). l.place) lines)) (text_of lines) ≡ words_from m lines
on_lines [] m r h = refl
on_lines (l ∷ ls) m r h =
    let q : Reached = record { place = l.place; later = map (λ (l : Line). l.place) ls } in
    ap (λ (t : List ℕ). words_on m q t) (append_assoc l.text (10 ∷ []) (text_of ls))
    ∙ on_line l.text (text_of ls) m q h.0
    ∙ ap (λ (ws : List Token). words_in l.place m l.text ++ words_at (mode_in l.place m l.text) l.place 10 ++ ws)
    (on_lines ls (line_mode l m) q h.1)

by_lines : (lines : List Line) → HaveNoFeeds lines
    → words_on Between (reached (map (λ (l : Line). l.place) lines)) (text_of lines) ≡ words_from Between lines
by_lines [] h = refl
by_lines (l ∷ ls) h = on_lines (l ∷ ls) Between (record { place = l.place; later = [] })
    (recursion_from_All (λ (l : Line). HasNoFeed l.text) (l ∷ ls) h)

-- The text of lines has the words of the lines.
pub lines_read : (lines : List Line) (places : List Place) (text : List ℕ) → HaveNoFeeds lines
    → places ≡ map (λ l. l.place) lines → text ≡ text_of lines → words_on Between (reached places) text ≡ words_of lines
unfolding words_of
lines_read lines places text h p t =
    ap (λ (ps : List Place). words_on Between (reached ps) text) p
    ∙ ap (λ (bs : List ℕ). words_on Between (reached (map (λ (l : Line). l.place) lines)) bs) t
    ∙ by_lines lines h

-- A byte that is neither blank, nor begins a comment, a string or a brace, is one of a run.
pub in_run_is : (b : ℕ) → is_blank b ≡ false → (b == 35) ≡ false → (b == 34) ≡ false → (b == 123) ≡ false
    → (b == 125) ≡ false → in_run b ≡ true
in_run_is b h c q o e = grind arith
