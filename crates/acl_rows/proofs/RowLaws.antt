-- What is written as rows is read as those rows.
use Rattle.std.proofs.Common.{◌≡◌, ℕ, zero, suc, ◌+◌, ◌<◌, length, Bool, true, false, cond, ◌||◌, List, [], ◌∷◌, ◌++◌, drop, map, flat_map, replicate, None, Some, refl, ap, sym, ◌∙◌, append_assoc, append-nil, arith, eqb}
use Rattle.std.specs.List.{AllByRecursion, prefix_len, slice_split, join_with_byte, onto_first, fold}
use Rattle.std.proofs.lemmas.Bool.Decides.{Decides-eqb}
use Rattle.std.proofs.lemmas.List.Splits.{join_with_byte-slice_split}
use Rattle.std.proofs.lemmas.List.Sums.{fold-append}
use Rattle.std.proofs.lemmas.List.{length-append}
use Rattle.std.proofs.lemmas.Grind.{flat_map-append}
use Rattle.acl_text.specs.Cuts.{cut_at, has_byte}
use Rattle.acl_text.proofs.CutLaws.{cut-again, cut-found, has-append, none-cut}
use Rattle.acl_rows.specs.Rows.{Row, row, spaced, row_line, row_text, text_of_rows, is_space, words_in}
use Rattle.acl_rows.specs.RowHalves.{row_back, row_front}
use Rattle.acl_rows.specs.RowSteps.{row_in, rows_in, IsWord, begins, IsRow}

-- ---- words with one space between

pub join_spaced : (w : List ℕ) (ws : List (List ℕ)) → w ++ spaced ws ≡ join_with_byte 32 (w ∷ ws)
join_spaced w [] = append-nil w
join_spaced w (v ∷ ws) = ap (λ t. w ++ (32 ∷ t)) (join_spaced v ws)

pub split_some : (text : List ℕ) → (w : List ℕ) × (ws : List (List ℕ)) × (words_in text ≡ w ∷ ws)
split_some [] = ([], [], refl)
split_some (b ∷ bs) = some_part (is_space b) (words_in bs) where
  some_part : (t : Bool) (parts : List (List ℕ)) → (w : List ℕ) × (ws : List (List ℕ)) × (cond t ([] ∷ parts) (onto_first b parts) ≡ w ∷ ws)
  some_part true parts = ([], parts, refl)
  some_part false [] = (b ∷ [], [], refl)
  some_part false (p ∷ parts) = (b ∷ p, parts, refl)

-- the words of a free text, each behind a space
pub free_spaced : (text : List ℕ) → 32 ∷ text ≡ spaced (words_in text)
free_spaced text =
    let s = split_some text in
    ap (λ t. 32 ∷ t) (sym (join_with_byte-slice_split 32 text) ∙ ap (join_with_byte 32) s.2 ∙ sym (join_spaced s.0 s.1)) ∙ ap spaced (sym s.2)

-- the parts of a row's text
pub row_parts : (n : ℕ) (w : List ℕ) (ws : List (List ℕ)) → ((replicate n 32 ++ w) ++ spaced ws) ++ 10 ∷ [] ≡ row_text (row n (w ∷ ws))
unfolding row_text
row_parts n w ws = ap (λ t. t ++ 10 ∷ []) (append_assoc (replicate n 32) w (spaced ws) ∙ ap (λ t. replicate n 32 ++ t) (join_spaced w ws))

-- the line of an indent and a word is a row of one word
pub word_row : (n : ℕ) (w : List ℕ) → replicate n 32 ++ (w ++ 10 ∷ []) ≡ text_of_rows (row n (w ∷ []) ∷ [])
unfolding row_text
word_row n w = sym (append_assoc (replicate n 32) w (10 ∷ [])) ∙ sym (append-nil (row_text (row n (w ∷ []))))

-- the text of a row whose words stand apart
pub row_halves : (n : ℕ) (w : List ℕ) (ws vs : List (List ℕ)) → row_text (row n (w ∷ (ws ++ vs))) ≡ row_front n w ws ++ row_back vs
unfolding row_front row_back
row_halves n w ws vs =
    let front = replicate n 32 ++ w in
    sym (row_parts n w (ws ++ vs)) ∙ ap (λ t. (front ++ t) ++ 10 ∷ []) (flat_map-append (λ (v : List ℕ). 32 ∷ v) ws vs)
    ∙ ap (λ t. t ++ 10 ∷ []) (sym (append_assoc front (spaced ws) (spaced vs))) ∙ append_assoc (front ++ spaced ws) (spaced vs) (10 ∷ [])

one_space_more : (n : ℕ) (text : List ℕ) → replicate n 32 ++ 32 ∷ text ≡ replicate (suc n) 32 ++ text
one_space_more zero text = refl
one_space_more (suc n) text = ap (λ t. 32 ∷ t) (one_space_more n text)

-- words each behind a space, the first one's being the last of the indent
pub spaced_row : (n : ℕ) (words : List (List ℕ)) → begins words ≡ true → row_text (row n ([] ∷ words)) ≡ row_text (row (suc n) words)
unfolding row_text
spaced_row n [] h = absurd cc
spaced_row n (w ∷ words) h = ap (λ t. t ++ 10 ∷ []) (one_space_more n (join_with_byte 32 (w ∷ words)))

-- ---- cutting

cut_step : (b : Bool) (c x : ℕ) (xs : List ℕ) (parts rest : List (List ℕ)) → (b || has_byte c xs) ≡ false → (has_byte c xs ≡ false → parts ≡ xs ∷ rest)
    → cond b ([] ∷ parts) (onto_first x parts) ≡ (x ∷ xs) ∷ rest
cut_step true c x xs parts rest k ih = cc
cut_step false c x xs parts rest k ih = ap (onto_first x) (ih k)

pub cut_none : (c : ℕ) (xs : List ℕ) → has_byte c xs ≡ false → slice_split (λ b. eqb b c) xs ≡ xs ∷ []
cut_none c [] h = refl
cut_none c (x ∷ xs) h = cut_step (eqb x c) c x xs (slice_split (λ b. eqb b c) xs) [] h (cut_none c xs)

pub cut_there : (c : ℕ) (xs ys : List ℕ) → has_byte c xs ≡ false → slice_split (λ b. eqb b c) (xs ++ c ∷ ys) ≡ xs ∷ slice_split (λ b. eqb b c) ys
cut_there c [] ys h =
    let parts : List (List ℕ) = slice_split (λ b. eqb b c) ys in
    ap (λ b. cond b ([] ∷ parts) (onto_first c parts)) ((Decides-eqb c c).1 refl)
cut_there c (x ∷ xs) ys h = cut_step (eqb x c) c x xs (slice_split (λ b. eqb b c) (xs ++ c ∷ ys)) (slice_split (λ b. eqb b c) ys) h (cut_there c xs ys)

-- what stands behind a byte is shorter
pub rest_is_shorter : (c : ℕ) (text part rest : List ℕ) → cut_at c text ≡ Some (part, rest) → length rest < length text
rest_is_shorter c text part rest h =
    let longer : length text ≡ length part + length (c ∷ rest) = ap length (cut-found c text part rest h).0 ∙ length-append part (c ∷ rest) in
    omega (arith, longer)

-- ---- the words of a row, one by one

pub first_word : (text word rest : List ℕ) → cut_at 32 text ≡ Some (word, rest) → words_in text ≡ word ∷ words_in rest
first_word text word rest h =
    let cut = cut-found 32 text word rest h in ap words_in cut.0 ∙ cut_there 32 word rest cut.1

pub last_word : (text : List ℕ) → cut_at 32 text ≡ None → words_in text ≡ text ∷ []
last_word text h = cut_none 32 text (none-cut 32 text h)

pub text_of_words : (text : List ℕ) → text ≡ join_with_byte 32 (words_in text)
text_of_words text = sym (join_with_byte-slice_split 32 text)

-- ---- one row

words_again : (w : List ℕ) (ws : List (List ℕ)) → AllByRecursion IsWord (w ∷ ws) → words_in (join_with_byte 32 (w ∷ ws)) ≡ w ∷ ws
words_again w [] h = cut_none 32 w h.0.no_space
words_again w (v ∷ ws) h = cut_there 32 w (join_with_byte 32 (v ∷ ws)) h.0.no_space ∙ ap (λ vs. w ∷ vs) (words_again v ws h.1)

indent_again : (n b : ℕ) (bs : List ℕ) → is_space b ≡ false → prefix_len is_space (replicate n 32 ++ b ∷ bs) ≡ n
indent_again zero b bs h = ap (λ t. cond t (1 + prefix_len is_space bs) 0) h
indent_again (suc n) b bs h = let e = indent_again n b bs h in omega (arith, e)

indent_gone : (n : ℕ) (line : List ℕ) → drop n (replicate n 32 ++ line) ≡ line
indent_gone zero line = refl
indent_gone (suc n) line = indent_gone n line

joined_begins : (b : ℕ) (bs : List ℕ) (ws : List (List ℕ)) → (rest : List ℕ) × (join_with_byte 32 ((b ∷ bs) ∷ ws) ≡ b ∷ rest)
joined_begins b bs [] = (bs, refl)
joined_begins b bs (w ∷ ws) = (bs ++ 32 ∷ join_with_byte 32 (w ∷ ws), refl)

no_space_first : (b : ℕ) (bs : List ℕ) → has_byte 32 (b ∷ bs) ≡ false → is_space b ≡ false
no_space_first b bs h = first_of (is_space b) (has_byte 32 bs) h where
  first_of : (a c : Bool) → (a || c) ≡ false → a ≡ false
  first_of true c e = e
  first_of false c e = refl

pub row-again : (r : Row) → IsRow r → row_in (row_line r) ≡ r
unfolding row_in
row-again r h = again r.indent r.words h.start h.words where
  again : (n : ℕ) (ws : List (List ℕ)) → begins ws ≡ true → AllByRecursion IsWord ws → row_in (row_line (row n ws)) ≡ row n ws
  again n [] s h = absurd cc
  again n ([] ∷ ws) s h = absurd cc
  again n ((b ∷ bs) ∷ ws) s h =
      let j = joined_begins b bs ws in
      let line : List ℕ = join_with_byte 32 ((b ∷ bs) ∷ ws) in
      let found : prefix_len is_space (replicate n 32 ++ line) ≡ n =
      ap (λ t. prefix_len is_space (replicate n 32 ++ t)) j.1 ∙ indent_again n b j.0 (no_space_first b bs h.0.no_space) in
      ap (λ k. row k (words_in (drop k (replicate n 32 ++ line)))) found
      ∙ ap (λ t. row n (words_in t)) (indent_gone n line) ∙ ap (row n) (words_again (b ∷ bs) ws h)

-- ---- all rows

spaces_no_feed : (n : ℕ) → has_byte 10 (replicate n 32) ≡ false
spaces_no_feed zero = refl
spaces_no_feed (suc n) = spaces_no_feed n

joined_no_feed : (ws : List (List ℕ)) → AllByRecursion IsWord ws → has_byte 10 (join_with_byte 32 ws) ≡ false
joined_no_feed [] h = refl
joined_no_feed (w ∷ []) h = h.0.no_feed
joined_no_feed (w ∷ v ∷ ws) h = has-append 10 w (32 ∷ join_with_byte 32 (v ∷ ws)) h.0.no_feed (joined_no_feed (v ∷ ws) h.1)

pub line_no_feed : (r : Row) → IsRow r → has_byte 10 (row_line r) ≡ false
line_no_feed r h = has-append 10 (replicate r.indent 32) (join_with_byte 32 r.words) (spaces_no_feed r.indent) (joined_no_feed r.words h.words)

pub row_first : (r : Row) (more : List ℕ) → row_text r ++ more ≡ row_line r ++ 10 ∷ more
unfolding row_text
row_first r more = append_assoc (row_line r) (10 ∷ []) more

-- the first line of a text that begins with a row, and its words
pub line_there : (r : Row) (more : List ℕ) → IsRow r → cut_at 10 (row_text r ++ more) ≡ Some (row_line r, more)
line_there r more h = ap (cut_at 10) (row_first r more) ∙ cut-again 10 (row_line r) more (line_no_feed r h)

pub words_there : (ws : List (List ℕ)) → IsRow (row 0 ws) → words_in (join_with_byte 32 ws) ≡ ws
unfolding row_in
words_there ws h =
    let again = row-again (row 0 ws) h in
    let line : List ℕ = join_with_byte 32 ws in
    ap (λ n. words_in (drop n line)) (sym (ap (λ r. r.indent) again)) ∙ ap (λ r. r.words) again

-- the rows of a text that begins with rows
pub rows_before : (rows : List Row) (more : List ℕ) → AllByRecursion IsRow rows → rows_in (text_of_rows rows ++ more) ≡ rows ++ rows_in more
rows_before [] more h = refl
rows_before (r ∷ rows) more h =
    let rest : List ℕ = text_of_rows rows ++ more in
    ap rows_in (append_assoc (row_text r) (text_of_rows rows) more ∙ row_first r rest)
    ∙ ap (map row_in) (cut_there 10 (row_line r) rest (line_no_feed r h.0))
    ∙ ap (λ x. x ∷ rows_in rest) (row-again r h.0) ∙ ap (λ xs. r ∷ xs) (rows_before rows more h.1)

-- the rows of a text, and the empty one behind its last line feed
rows_again : (rows : List Row) → AllByRecursion IsRow rows → rows_in (text_of_rows rows) ≡ rows ++ row_in [] ∷ []
rows_again rows h = ap rows_in (sym (append-nil (text_of_rows rows))) ∙ rows_before rows [] h

-- the rows of a text are that of its first line and those of the lines behind it
pub first_row : (text line rest : List ℕ) → cut_at 10 text ≡ Some (line, rest) → rows_in text ≡ row_in line ∷ rows_in rest
first_row text line rest h =
    let cut = cut-found 10 text line rest h in ap rows_in cut.0 ∙ ap (map row_in) (cut_there 10 line rest cut.1)

pub last_row : (text : List ℕ) → cut_at 10 text ≡ None → rows_in text ≡ row_in text ∷ []
last_row text h = ap (map row_in) (cut_none 10 text (none-cut 10 text h))

-- what is written is read: a draft goes over the rows that were written
pub fold-again : {S : Type 0} (step : S → Row → S) (start end : S) (rows : List Row) → AllByRecursion IsRow rows
    → fold step start rows ≡ end → step end (row_in []) ≡ end → fold step start (rows_in (text_of_rows rows)) ≡ end
fold-again step start end rows h e last =
    ap (fold step start) (rows_again rows h) ∙ fold-append step start rows (row_in [] ∷ []) ∙ ap (λ s. step s (row_in [])) e ∙ last

-- a draft goes over what was written of members, each of which it takes
pub fold-members : {S X A : Type 0} (step : S → X → S) (write : A → List X) (at : List A → S) (P : A → Type 0)
    → ((before : List A) (a : A) → P a → fold step (at before) (write a) ≡ at (before ++ a ∷ []))
    → (before members : List A) → AllByRecursion P members → fold step (at before) (flat_map write members) ≡ at (before ++ members)
fold-members step write at P each before [] h = ap at (sym (append-nil before))
fold-members step write at P each before (a ∷ members) h =
    fold-append step (at before) (write a) (flat_map write members) ∙ ap (λ s. fold step s (flat_map write members)) (each before a h.0)
    ∙ fold-members step write at P each (before ++ a ∷ []) members h.1 ∙ ap at (append_assoc before (a ∷ []) members)
