-- Notes: gathered byte by byte they are the safe words, and each is a safe text.
use Rattle.std.proofs.Common.{◌≡◌, ℕ, zero, suc, Bool, true, false, cond, not, ◌==◌, ◌&&◌, ◌||◌, nat_le, ◌≢◌, List, [], ◌∷◌, ◌++◌, length, take, drop, map, flat_map, ◌≤◌, refl, ap, sym, subst, ◌∙◌, append-nil, arith, true≢false}
use Rattle.std.proofs.Math.Nat.{min-le_left}
use Rattle.std.specs.List.{join_with_byte, list_all}
use Rattle.std.proofs.lemmas.Bool.{cond-true, cond-false, or_parts, and_parts, and_from, le-leb, false≢true}
use Rattle.std.proofs.lemmas.List.{drop_all, length-take, take-append-le}
use Rattle.acl_text.specs.Cursors.{onto_first, lines_of, is_white, begins_black, words_of}
use Rattle.acl_text.specs.Names.{is_safe_byte, single_spaced}
use Rattle.acl_text.specs.Notes.{is_note, note_of, safe_byte, safe_words, without_end_space}
use Rattle.acl_text.specs.NoteSteps.{is_gap, spaced, text_left}

pub end_space : (front : List ℕ) (b : ℕ) → without_end_space (front ++ b ∷ []) ≡ cond (b == 32) front (front ++ b ∷ [])
end_space [] b = refl
end_space (c ∷ []) b = cases b (b == 32)
  where
    cases : (b : ℕ) (s : Bool) → c ∷ cond s [] (b ∷ []) ≡ cond s (c ∷ []) (c ∷ b ∷ [])
    cases b true = refl
    cases b false = refl
end_space (c ∷ d ∷ front) b = ap (λ t. c ∷ t) (end_space (d ∷ front) b) ∙ push (b == 32)
  where
    push : (s : Bool) → c ∷ cond s (d ∷ front) (d ∷ front ++ b ∷ []) ≡ cond s (c ∷ d ∷ front) (c ∷ d ∷ front ++ b ∷ [])
    push true = refl
    push false = refl

-- ---- the words of all lines, byte by byte

abbrev words : List ℕ → List (List ℕ)
words bs = flat_map words_of (lines_of bs)

abbrev begins_word : List ℕ → Bool
begins_word [] = false
begins_word (b ∷ bs) = not (is_gap b)

-- a byte in front of the words of the text behind it
abbrev onto_words : ℕ → Bool → List (List ℕ) → List (List ℕ)
onto_words b true ws = onto_first b ws
onto_words b false ws = (b ∷ []) ∷ ws

onto-some : (b : ℕ) (ws more : List (List ℕ)) → ws ≢ [] → onto_first b ws ++ more ≡ onto_first b (ws ++ more)
onto-some b [] more n = absurd (n refl)
onto-some b (w ∷ ws) more n = refl

some-onto : (b : ℕ) (ws : List (List ℕ)) → onto_first b ws ≢ []
some-onto b [] = λ e. cc
some-onto b (w ∷ ws) = λ e. cc

some-words : (line : List ℕ) → begins_black line ≡ true → words_of line ≢ []
some-words [] h = cc
some-words (b ∷ line) h = black (is_white b) refl h
  where
    two : (c : Bool) → cond c (onto_first b (words_of line)) ((b ∷ []) ∷ words_of line) ≢ []
    two true = some-onto b (words_of line)
    two false = λ e. cc

    black : (w : Bool) → is_white b ≡ w → not w ≡ true → words_of (b ∷ line) ≢ []
    black true e n = cc
    black false e n = subst (λ t. t ≢ []) (sym (cond-false (is_white b) _ _ e)) (two (begins_black line))

-- lines and words of a text with one byte more
lines-more : (b : ℕ) (bs : List ℕ) → (b == 10) ≡ false → lines_of (b ∷ bs) ≡ onto_first b (lines_of bs)
lines-more b bs n = cond-false (b == 10) _ _ n

line-words : (b : ℕ) (line : List ℕ) (more : List (List ℕ)) → is_white b ≡ false
    → words_of (b ∷ line) ++ more ≡ onto_words b (begins_black line) (words_of line ++ more)
line-words b line more w = ap (λ t. t ++ more) (cond-false (is_white b) _ _ w) ∙ joins (begins_black line) refl
  where
    joins : (c : Bool) → begins_black line ≡ c
        → cond c (onto_first b (words_of line)) ((b ∷ []) ∷ words_of line) ++ more ≡ onto_words b c (words_of line ++ more)
    joins true e = onto-some b (words_of line) more (some-words line e)
    joins false e = refl

-- how the first line begins, and that there is one
begins-line : (c : ℕ) (cs : List ℕ) → (line : List ℕ) × (lines : List (List ℕ)) × (lines_of (c ∷ cs) ≡ line ∷ lines)
    × (begins_black line ≡ begins_word (c ∷ cs))
begins-line c cs = by (c == 10) refl
  where
    front : (ls : List (List ℕ)) → (c == 10) ≡ false → (line : List ℕ) × (lines : List (List ℕ)) × (onto_first c ls ≡ line ∷ lines)
        × (begins_black line ≡ begins_word (c ∷ cs))
    front [] n = (c ∷ [], [], refl, ap (λ t. not (t || is_white c)) (sym n))
    front (l ∷ ls) n = (c ∷ l, ls, refl, ap (λ t. not (t || is_white c)) (sym n))

    by : (t : Bool) → (c == 10) ≡ t → (line : List ℕ) × (lines : List (List ℕ)) × (lines_of (c ∷ cs) ≡ line ∷ lines)
        × (begins_black line ≡ begins_word (c ∷ cs))
    by true e = ([], lines_of cs, cond-true (c == 10) _ _ e, ap (λ t. not (t || is_white c)) (sym e))
    by false e = let f = front (lines_of cs) e in (f.0, f.1, lines-more c cs e ∙ f.2, f.3)

words-gap : (b : ℕ) (bs : List ℕ) → is_gap b ≡ true → words (b ∷ bs) ≡ words bs
words-gap b bs g = by (b == 10) refl
  where
    white : (w : Bool) → (b == 10) ≡ false → (false || w) ≡ true → w ≡ true
    white w n h = h

    first : (w : is_white b ≡ true) (ls : List (List ℕ)) → flat_map words_of (onto_first b ls) ≡ flat_map words_of ls
    first w [] = ap (λ t. t ++ []) (cond-true (is_white b) _ _ w)
    first w (l ∷ ls) = ap (λ t. t ++ flat_map words_of ls) (cond-true (is_white b) _ _ w)

    by : (t : Bool) → (b == 10) ≡ t → words (b ∷ bs) ≡ words bs
    by true e = ap (flat_map words_of) (cond-true (b == 10) _ _ e)
    by false e = ap (flat_map words_of) (lines-more b bs e)
        ∙ first (sym (ap (λ t. t || is_white b) e) ∙ g) (lines_of bs)

words-more : (b : ℕ) (bs : List ℕ) → is_gap b ≡ false → words (b ∷ bs) ≡ onto_words b (begins_word bs) (words bs)
words-more b bs g =
    let p = or_parts (b == 10) (is_white b) g in
    ap (flat_map words_of) (lines-more b bs p.0) ∙ by bs p.1
  where
    by : (bs : List ℕ) → is_white b ≡ false → flat_map words_of (onto_first b (lines_of bs)) ≡ onto_words b (begins_word bs) (words bs)
    by [] w = line-words b [] [] w
    by (c ∷ cs) w =
        let l = begins-line c cs in
        ap (λ ls. flat_map words_of (onto_first b ls)) l.2 ∙ line-words b l.0 (flat_map words_of l.1) w
        ∙ ap (λ t. onto_words b t (words_of l.0 ++ flat_map words_of l.1)) l.3
        ∙ ap (λ ls. onto_words b (begins_word (c ∷ cs)) (flat_map words_of ls)) (sym l.2)

-- ---- the text of the words, byte by byte

abbrev text : List (List ℕ) → List ℕ
text ws = join_with_byte 32 (map (λ w. map safe_byte w) ws)

-- the words behind a word that is ended
abbrev behind_word : List (List ℕ) → List ℕ
behind_word [] = []
behind_word (w ∷ ws) = 32 ∷ text (w ∷ ws)

text-onto : (b : ℕ) (c : Bool) (ws : List (List ℕ)) → text (onto_words b c ws) ≡ safe_byte b ∷ cond c (text ws) (behind_word ws)
text-onto b true [] = refl
text-onto b true (w ∷ []) = refl
text-onto b true (w ∷ v ∷ ws) = refl
text-onto b false [] = refl
text-onto b false (w ∷ ws) = refl

behind-some : (ws : List (List ℕ)) → ws ≢ [] → behind_word ws ≡ 32 ∷ text ws
behind-some [] n = absurd (n refl)
behind-some (w ∷ ws) n = refl

onto-is-some : (b : ℕ) (c : Bool) (ws : List (List ℕ)) → onto_words b c ws ≢ []
onto-is-some b true ws = some-onto b ws
onto-is-some b false ws = λ e. cc

-- behind a byte that stands in no word, and behind one that does
gap-more : (b : ℕ) (bs left : List ℕ) (f : List (List ℕ) → List ℕ) → is_gap b ≡ true → left ≡ f (words bs) → left ≡ f (words (b ∷ bs))
gap-more b bs left f g e = e ∙ ap f (sym (words-gap b bs g))

word-more : (b : ℕ) (bs left : List ℕ) → is_gap b ≡ false → left ≡ cond (begins_word bs) (text (words bs)) (behind_word (words bs))
    → safe_byte b ∷ left ≡ text (words (b ∷ bs))
word-more b bs left g e =
    ap (λ t. safe_byte b ∷ t) e ∙ sym (text-onto b (begins_word bs) (words bs)) ∙ ap text (sym (words-more b bs g))

some-more : (b : ℕ) (bs : List ℕ) → is_gap b ≡ false → behind_word (words (b ∷ bs)) ≡ 32 ∷ text (words (b ∷ bs))
some-more b bs g =
    behind-some (words (b ∷ bs)) (λ e. onto-is-some b (begins_word bs) (words bs) (sym (words-more b bs g) ∙ e))

in-word : (b : ℕ) (bs gap word : List ℕ) (g : Bool) → is_gap b ≡ g → gap ≡ behind_word (words bs)
    → word ≡ cond (begins_word bs) (text (words bs)) (behind_word (words bs))
    → cond g gap (safe_byte b ∷ word) ≡ cond (not g) (text (words (b ∷ bs))) (behind_word (words (b ∷ bs)))
in-word b bs gap word true g e f = gap-more b bs gap behind_word g e
in-word b bs gap word false g e f = word-more b bs word g f

in-gap : (b : ℕ) (bs gap word : List ℕ) (g : Bool) → is_gap b ≡ g → gap ≡ behind_word (words bs)
    → word ≡ cond (begins_word bs) (text (words bs)) (behind_word (words bs))
    → cond g gap (32 ∷ safe_byte b ∷ word) ≡ behind_word (words (b ∷ bs))
in-gap b bs gap word true g e f = gap-more b bs gap behind_word g e
in-gap b bs gap word false g e f = ap (λ t. 32 ∷ t) (word-more b bs word g f) ∙ sym (some-more b bs g)

-- what is left within a word, and behind one
left : (bs : List ℕ) → (text_left false true bs ≡ cond (begins_word bs) (text (words bs)) (behind_word (words bs)))
    × (text_left true true bs ≡ behind_word (words bs))
left [] = (refl, refl)
left (b ∷ bs) =
    let l = left bs in (
      in-word b bs (text_left true true bs) (text_left false true bs) (is_gap b) refl l.1 l.0,
      in-gap b bs (text_left true true bs) (text_left false true bs) (is_gap b) refl l.1 l.0,
    )

front : (b : ℕ) (bs first : List ℕ) (g : Bool) → is_gap b ≡ g → first ≡ text (words bs)
    → cond g first (safe_byte b ∷ text_left false true bs) ≡ text (words (b ∷ bs))
front b bs first true g e = gap-more b bs first text g e
front b bs first false g e = word-more b bs (text_left false true bs) g (left bs).0

left-of : (bs : List ℕ) → text_left false false bs ≡ text (words bs)
left-of [] = refl
left-of (b ∷ bs) = front b bs (text_left false false bs) (is_gap b) refl (left-of bs)

pub all-left : (bs : List ℕ) → text_left false false bs ≡ safe_words bs
unfolding safe_words
all-left bs = left-of bs

-- The bytes gathered so far, and what is left of a place on: enough bytes are a front of the whole, and at the
-- end they are the whole.
pub enough : (n : ℕ) (bs had left : List ℕ) → n ≤ length had → had ++ left ≡ text_left false false bs → take n had ≡ take n (safe_words bs)
enough n bs had left h e = sym (take-append-le n had left h) ∙ ap (take n) (e ∙ all-left bs)

pub at_end : (bs had : List ℕ) (i : ℕ) (owed begun : Bool) → length bs ≤ i → had ++ text_left owed begun (drop i bs) ≡ text_left false false bs
    → had ≡ safe_words bs
at_end bs had i owed begun h e =
    sym (append-nil had) ∙ ap (λ t. had ++ text_left owed begun t) (sym (drop_all i bs h)) ∙ e ∙ all-left bs

-- ---- a note is a safe text

-- no two spaces stand together; the flag says that a space stands before
abbrev apart : Bool → List ℕ → Bool
apart after [] = true
apart after (b ∷ bs) = not (after && b == 32) && apart (b == 32) bs

is-safe : (b : ℕ) → is_safe_byte (safe_byte b) ≡ true
is-safe b = by (is_safe_byte b) refl
  where
    by : (s : Bool) → is_safe_byte b ≡ s → is_safe_byte (cond s b 95) ≡ true
    by true e = e
    by false e = refl

no-space : (b : ℕ) → is_gap b ≡ false → (safe_byte b == 32) ≡ false
no-space b g = by (is_safe_byte b)
  where
    by : (s : Bool) → (cond s b 95 == 32) ≡ false
    by true = (or_parts (b == 9 || b == 13) (b == 32) (or_parts (b == 10) (is_white b) g).1).1
    by false = refl

behind-byte : (after : Bool) (b : ℕ) (more : List ℕ) → is_gap b ≡ false → apart false more ≡ true → apart after (safe_byte b ∷ more) ≡ true
behind-byte after b more g h = rw (no-space b g) (by after)
  where
    by : (a : Bool) → not (a && false) && apart false more ≡ true
    by true = h
    by false = h

apart-left : (owed begun : Bool) (bs : List ℕ) → (owed ≡ true → begun ≡ true) → apart (not begun) (text_left owed begun bs) ≡ true
apart-left owed begun [] h = refl
apart-left owed begun (b ∷ bs) h = by owed (is_gap b) refl h (apart-left begun begun bs (λ e. e)) (apart-left false true bs (λ e. refl))
  where
    by : (o g : Bool) → is_gap b ≡ g → (o ≡ true → begun ≡ true) → apart (not begun) (text_left begun begun bs) ≡ true → apart false (text_left false true bs) ≡ true
        → apart (not begun) (cond g (text_left begun begun bs) (spaced o b ++ text_left false true bs)) ≡ true
    by o true e f gap word = gap
    by false false e f gap word = behind-byte (not begun) b (text_left false true bs) e word
    by true false e f gap word = rw (f refl) (behind-byte true b (text_left false true bs) e word)

safe-left : (owed begun : Bool) (bs : List ℕ) → list_all is_safe_byte (text_left owed begun bs) ≡ true
safe-left owed begun [] = refl
safe-left owed begun (b ∷ bs) = by owed (is_gap b) (safe-left begun begun bs) (safe-left false true bs)
  where
    by : (o g : Bool) → list_all is_safe_byte (text_left begun begun bs) ≡ true → list_all is_safe_byte (text_left false true bs) ≡ true
        → list_all is_safe_byte (cond g (text_left begun begun bs) (spaced o b ++ text_left false true bs)) ≡ true
    by o true gap word = gap
    by false false gap word = rw (is-safe b) word
    by true false gap word = rw (is-safe b) word

apart-take : (n : ℕ) (after : Bool) (bs : List ℕ) → apart after bs ≡ true → apart after (take n bs) ≡ true
apart-take zero after bs h = refl
apart-take (suc n) after [] h = refl
apart-take (suc n) after (b ∷ bs) h =
    let p = and_parts (not (after && b == 32)) (apart (b == 32) bs) h in
    and_from (not (after && b == 32)) (apart (b == 32) (take n bs)) p.0 (apart-take n (b == 32) bs p.1)

safe-take : (n : ℕ) (bs : List ℕ) → list_all is_safe_byte bs ≡ true → list_all is_safe_byte (take n bs) ≡ true
safe-take zero bs h = refl
safe-take (suc n) [] h = refl
safe-take (suc n) (b ∷ bs) h = let p = and_parts (is_safe_byte b) (list_all is_safe_byte bs) h in and_from (is_safe_byte b) (list_all is_safe_byte (take n bs)) p.0 (safe-take n bs p.1)

safe-cut : (bs : List ℕ) → list_all is_safe_byte bs ≡ true → list_all is_safe_byte (without_end_space bs) ≡ true
safe-cut [] h = refl
safe-cut (b ∷ []) h = by (b == 32)
  where
    by : (s : Bool) → list_all is_safe_byte (cond s [] (b ∷ [])) ≡ true
    by true = refl
    by false = h
safe-cut (b ∷ c ∷ bs) h =
    let p = and_parts (is_safe_byte b) (list_all is_safe_byte (c ∷ bs)) h in
    and_from (is_safe_byte b) (list_all is_safe_byte (without_end_space (c ∷ bs))) p.0 (safe-cut (c ∷ bs) p.1)

short-cut : (bs : List ℕ) → length (without_end_space bs) ≤ length bs
short-cut [] = omega arith
short-cut (b ∷ []) = by (b == 32)
  where
    by : (s : Bool) → length (cond s [] (b ∷ [])) ≤ 1
    by true = omega arith
    by false = omega arith
short-cut (b ∷ c ∷ bs) = let m = short-cut (c ∷ bs) in omega arith

not-both : (a s : Bool) → not (a && s) ≡ true → a ≡ true → s ≡ false
not-both a true h e = absurd (false≢true (sym (ap (λ t. not (t && true)) e) ∙ h))
not-both a false h e = refl

spaced-cut : (after : Bool) (b : ℕ) (bs : List ℕ) → apart after (b ∷ bs) ≡ true → single_spaced after (without_end_space (b ∷ bs)) ≡ true
spaced-cut after b [] h =
    by after (b == 32) refl (not-both after (b == 32) (and_parts (not (after && b == 32)) true h).0)
  where
    by : (a s : Bool) → (b == 32) ≡ s → (a ≡ true → s ≡ false) → single_spaced a (cond s [] (b ∷ [])) ≡ true
    by false true e f = refl
    by true true e f = absurd (true≢false (f refl))
    by false false e f = rw e refl
    by true false e f = rw e refl
spaced-cut after b (c ∷ bs) h =
    let p = and_parts (not (after && b == 32)) (apart (b == 32) (c ∷ bs)) h in
    and_from (not (after && b == 32)) (single_spaced (b == 32) (without_end_space (c ∷ bs))) p.0 (spaced-cut (b == 32) c bs p.1)

safe-note : (bs : List ℕ) → length bs ≤ 80 → apart true bs ≡ true → list_all is_safe_byte bs ≡ true → is_note (without_end_space bs) ≡ true
safe-note [] l h s = refl
safe-note (b ∷ bs) l h s = by (without_end_space (b ∷ bs)) (short-cut (b ∷ bs)) (spaced-cut true b bs h) (safe-cut (b ∷ bs) s)
  where
    by : (t : List ℕ) → length t ≤ length (b ∷ bs) → single_spaced true t ≡ true → list_all is_safe_byte t ≡ true → is_note t ≡ true
    by [] m p q = refl
    by (c ∷ t) m p q =
        and_from (nat_le (length (c ∷ t)) 128) (list_all is_safe_byte (c ∷ t) && single_spaced true (c ∷ t)) (le-leb (length (c ∷ t)) 128 (omega arith))
        (and_from (list_all is_safe_byte (c ∷ t)) (single_spaced true (c ∷ t)) q p)

pub note_is_safe : (comments : List ℕ) → is_note (note_of comments) ≡ true
unfolding note_of
note_is_safe comments =
    rw (sym (all-left comments)) (safe-note (take 80 (text_left false false comments))
    (omega (arith, length-take 80 (text_left false false comments), min-le_left 80 (length (text_left false false comments))))
    (apart-take 80 true (text_left false false comments) (apart-left false false comments (λ e. e)))
    (safe-take 80 (text_left false false comments) (safe-left false false comments)))
