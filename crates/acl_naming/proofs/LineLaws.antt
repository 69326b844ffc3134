-- Lines of the forms that a first look tells.
use Rattle.std.proofs.Common.{◌≡◌, ℕ, ◌+◌, ◌-◌, ◌<◌, ◌≤◌, Bool, true, false, not, ◌&&◌, ◌||◌, ◌⊎◌, ◌==◌, nat_le, zero, suc, get_or, List, [], ◌∷◌, ◌++◌, length, take, drop, Ok, Err, inl, inr, refl, ap, sym, subst, ◌∙◌, arith}
use Rattle.std.specs.Borrow.{Bor}
use Rattle.std.proofs.lemmas.Bool.{and_parts, and_from, or_cases, cond-true, cond-false, eqb-true, leb-true, le-leb, ne_eqb}
use Rattle.std.proofs.lemmas.List.{drop-take, take_at, take-append-drop, take-take, get_or-take, length-append, length-take, append_assoc}
use Rattle.std.specs.List.{list_all, slice_range}
use Rattle.acl_text.specs.declared.faults.Place.{Place}
use Rattle.acl_packet.specs.declared.addresses.Prefix.{Prefix}
use Rattle.acl_text.specs.AddressTexts.{IsPrefixText}
use Rattle.acl_text.specs.Cuts.{has_byte}
use Rattle.acl_text.specs.Fronts.{IsPrefixFront, is_prefix_byte}
use Rattle.acl_text.specs.Cursors.{begins_black, first_line, is_white, lines_of, onto_first, or_all, words_of}
use Rattle.acl_text.specs.Steps.{◌>>=◌}
use Rattle.acl_text.proofs.CursorLaws.{lines_step}
use Rattle.acl_text.proofs.CutLaws.{cut-again, has-append, has-not}
use Rattle.acl_naming.specs.declared.item_words.NamingKind.{NamingKind}
use Rattle.acl_naming.specs.Definitions.{Definition}
use Rattle.acl_naming.specs.declared.line_parts.LineForm.{LineForm}
use Rattle.acl_naming.specs.declared.line_parts.LineForm.TheVariants.{LonePrefix, Plain}
use Rattle.acl_naming.specs.LineSteps.{IsLoneWord, IsNamed, IsOfForm, IsSeenLine, is_ink, is_plain}
use Rattle.acl_naming.specs.NamingFiles.{TableOrSlip, in_front_of, item_added, line_added, opens, trimmed, with_items, without_comment, without_end}
use Rattle.acl_naming.proofs.LaneLaws.{joined_all}
use Rattle.acl_naming.proofs.ReadLaws.{plain_added, plain_opens}

-- ---- bytes

white_plain : (b : ℕ) → is_white b ≡ true → is_plain b ≡ true
white_plain b h = elim (or_cases (b == 9 || b == 13) (b == 32) h) [
  | inl l ↦ elim (or_cases (b == 9) (b == 13) l) [
    | inl t ↦ subst (λ n. is_plain n ≡ true) (sym (eqb-true b 9 t)) refl
    | inr r ↦ subst (λ n. is_plain n ≡ true) (sym (eqb-true b 13 r)) refl
  ]
  | inr s ↦ subst (λ n. is_plain n ≡ true) (sym (eqb-true b 32 s)) refl
]

without_or_with : (p w : Bool) → (w ≡ true → p ≡ true) → (p && not w || w) ≡ p
without_or_with true true h = refl
without_or_with true false h = refl
without_or_with false true h = sym (h refl)
without_or_with false false h = refl

pub ink_or_white : (b : ℕ) → (is_ink b || is_white b) ≡ is_plain b
ink_or_white b = without_or_with (is_plain b) (is_white b) (white_plain b)

white_all : (bs : List ℕ) → list_all is_white bs ≡ true → list_all is_plain bs ≡ true
white_all [] h = refl
white_all (b ∷ bs) h =
    let p = and_parts (is_white b) (list_all is_white bs) h in
    and_from (is_plain b) (list_all is_plain bs) (white_plain b p.0) (white_all bs p.1)

ink_all : (bs : List ℕ) → list_all is_ink bs ≡ true → list_all is_plain bs ≡ true
ink_all [] h = refl
ink_all (b ∷ bs) h =
    let p = and_parts (is_ink b) (list_all is_ink bs) h in
    and_from (is_plain b) (list_all is_plain bs) (and_parts (is_plain b) (not (is_white b)) p.0).0 (ink_all bs p.1)

-- ---- words

front_words : (front bs : List ℕ) → list_all is_white front ≡ true → words_of (front ++ bs) ≡ words_of bs
front_words [] bs h = refl
front_words (b ∷ front) bs h =
    let p = and_parts (is_white b) (list_all is_white front) h in
    cond-true (is_white b) _ _ p.0 ∙ front_words front bs p.1

white_words : (end : List ℕ) → list_all is_white end ≡ true → words_of end ≡ []
white_words [] h = refl
white_words (b ∷ end) h =
    let p = and_parts (is_white b) (list_all is_white end) h in
    cond-true (is_white b) _ _ p.0 ∙ white_words end p.1

not_true : (b : Bool) → not b ≡ true → b ≡ false
not_true true h = sym h
not_true false h = refl

ends_white : (end : List ℕ) → list_all is_white end ≡ true → begins_black end ≡ false
ends_white [] h = refl
ends_white (b ∷ end) h = ap not (and_parts (is_white b) (list_all is_white end) h).0

one_word : (b : ℕ) (word end : List ℕ) → list_all is_ink (b ∷ word) ≡ true → list_all is_white end ≡ true → words_of (b ∷ (word ++ end)) ≡ (b ∷ word) ∷ []
one_word b [] end h k =
    let ink = and_parts (is_plain b) (not (is_white b)) (and_parts (is_ink b) true h).0 in
    cond-false (is_white b) _ _ (not_true (is_white b) ink.1) ∙ cond-false (begins_black end) _ _ (ends_white end k) ∙ ap (λ t. (b ∷ []) ∷ t) (white_words end k)
one_word b (c ∷ word) end h k =
    let p = and_parts (is_ink b) (list_all is_ink (c ∷ word)) h in
    let ink = and_parts (is_plain b) (not (is_white b)) p.0 in
    let next = and_parts (is_plain c) (not (is_white c)) (and_parts (is_ink c) (list_all is_ink word) p.1).0 in
    cond-false (is_white b) _ _ (not_true (is_white b) ink.1) ∙ cond-true (not (is_white c)) _ _ next.1 ∙ ap (onto_first b) (one_word c word end p.1 k)

-- a word, and what stands behind it
word_ahead : (b : ℕ) (word tail : List ℕ) → list_all is_ink (b ∷ word) ≡ true → begins_black tail ≡ false → words_of (b ∷ (word ++ tail)) ≡ (b ∷ word) ∷ words_of tail
word_ahead b [] tail h k =
    let ink = and_parts (is_plain b) (not (is_white b)) (and_parts (is_ink b) true h).0 in
    cond-false (is_white b) _ _ (not_true (is_white b) ink.1) ∙ cond-false (begins_black tail) _ _ k
word_ahead b (c ∷ word) tail h k =
    let p = and_parts (is_ink b) (list_all is_ink (c ∷ word)) h in
    let ink = and_parts (is_plain b) (not (is_white b)) p.0 in
    let next = and_parts (is_plain c) (not (is_white c)) (and_parts (is_ink c) (list_all is_ink word) p.1).0 in
    cond-false (is_white b) _ _ (not_true (is_white b) ink.1) ∙ cond-true (not (is_white c)) _ _ next.1 ∙ ap (onto_first b) (word_ahead c word tail p.1 k)

words_ahead : (word tail : List ℕ) → 0 < length word → list_all is_ink word ≡ true → begins_black tail ≡ false → words_of (word ++ tail) ≡ word ∷ words_of tail
words_ahead [] tail l h k = absurd (omega arith)
words_ahead (b ∷ word) tail l h k = word_ahead b word tail h k

white_there : (bs : List ℕ) (n : ℕ) → (n < length bs → is_white (get_or bs n 0) ≡ true) → begins_black (drop n bs) ≡ false
white_there [] zero h = refl
white_there [] (suc n) h = refl
white_there (b ∷ bs) zero h = ap not (h (omega arith))
white_there (b ∷ bs) (suc n) h = white_there bs n (λ l. h (omega (arith, l)))

-- the first bytes of a text begin with a word, behind which there is white space or their end
pub word_first : (text shown : List ℕ) (size n : ℕ) → size ≤ length text → take size text ≡ shown → 0 < n → n ≤ size → list_all is_ink (take n text) ≡ true
    → (n < size → is_white (get_or text n 0) ≡ true) → words_of shown ≡ take n shown ∷ words_of (drop n shown)
word_first text shown size n fits is some within ink white =
    let long : length shown ≡ size = omega (arith, ap (λ (t : List ℕ). length t) (sym is), length-take size text, fits) in
    let own : take n shown ≡ take n text = ap (λ (t : List ℕ). take n t) (sym is) ∙ take-take n size text within in
    let there : n < length shown → is_white (get_or shown n 0) ≡ true = λ l.
    ap (λ (t : List ℕ). is_white (get_or t n 0)) (sym is) ∙ ap is_white (get_or-take size text n 0 (omega (arith, l, long))) ∙ white (omega (arith, l, long)) in
    ap words_of (sym (take-append-drop n shown))
    ∙ words_ahead (take n shown) (drop n shown) (omega (arith, length-take n shown, long, some, within))
    (ap (λ (t : List ℕ). list_all is_ink t) own ∙ ink) (white_there shown n there)

sliced : (line : List ℕ) (start end : ℕ) → start ≤ end → slice_range line start end ≡ drop start (take end line)
sliced line start end h =
    let back : end ≡ start + (end - start) = omega arith in
    sym (ap (λ (n : ℕ). drop start (take n line)) back ∙ drop-take start (end - start) line)

-- the next word of a line, and what stands behind it
pub next_shown : (line whole word rest : List ℕ) (start end : ℕ) → line ≡ whole → words_of line ≡ slice_range line start end ∷ words_of (drop end line) → start ≤ end
    → word ≡ drop start (take end whole) → rest ≡ drop end whole → words_of whole ≡ word ∷ words_of rest
next_shown line whole word rest start end same h l w r =
    let all : words_of whole ≡ slice_range whole start end ∷ words_of (drop end whole) =
    subst (λ (t : List ℕ). words_of t ≡ slice_range t start end ∷ words_of (drop end t)) same h in
    all ∙ ap (λ (t : List ℕ). t ∷ words_of (drop end whole)) (sliced whole start end l ∙ sym w) ∙ ap (λ (t : List ℕ). word ∷ words_of t) (sym r)

-- white space in front is passed over
pub white_first : (bs : List ℕ) (n : ℕ) → list_all is_white (take n bs) ≡ true → words_of bs ≡ words_of (drop n bs)
white_first bs n h = ap words_of (sym (take-append-drop n bs)) ∙ front_words (take n bs) (drop n bs) h

some_word : (word end : List ℕ) → 0 < length word → list_all is_ink word ≡ true → list_all is_white end ≡ true → words_of (word ++ end) ≡ word ∷ []
some_word [] end l h k = absurd (omega arith)
some_word (b ∷ word) end l h k = one_word b word end h k

lone_of : (front word end : List ℕ) → list_all is_white front ≡ true → 0 < length word → list_all is_ink word ≡ true → list_all is_white end ≡ true
    → IsLoneWord (front ++ (word ++ end)) word
lone_of front word end f l w e = record {
  plain = joined_all is_plain front (word ++ end) (white_all front f) (joined_all is_plain word end (ink_all word w) (white_all end e));
  words = front_words front (word ++ end) f ∙ some_word word end l w e;
}

-- ---- lines

pub some_long : (word : List ℕ) → (length word == 0) ≡ false → 0 < length word
some_long [] h = absurd (cc)
some_long (b ∷ word) h = omega arith

pub split_whole : (bs xs ys : List ℕ) (n : ℕ) → xs ≡ take n bs → ys ≡ drop n bs → bs ≡ xs ++ ys
split_whole bs xs ys n x y = sym (take-append-drop n bs) ∙ ap (λ t. t ++ drop n bs) (sym x) ∙ ap (λ t. xs ++ t) (sym y)

-- a line that the bytes begin with
own_line : (bytes own rest line : List ℕ) (size : ℕ) → bytes ≡ own ++ 10 ∷ rest → length own ≡ size → line ≡ take size bytes → own ≡ line
own_line bytes own rest line size whole long is = sym (is ∙ ap (take size) whole ∙ take_at own (10 ∷ rest) size long)

-- a line feed stands behind the line, of which something is told
pub record SeenBy (bytes line rest : List ℕ) (Told : Type 0) : Type 0 where
  pub joined : bytes ≡ line ++ 10 ∷ rest
  pub ended : has_byte 10 line ≡ false
  pub told : Told

seen : (bytes own rest line : List ℕ) (Told : List ℕ → Type 0) → bytes ≡ own ++ 10 ∷ rest → own ≡ line → has_byte 10 own ≡ false → Told own
    → SeenBy bytes line rest (Told line)
seen bytes own rest line Told whole same ended told = record {
  joined = whole ∙ ap (λ x. x ++ 10 ∷ rest) same;
  ended = ap (has_byte 10) (sym same) ∙ ended;
  told = subst Told same told;
}

-- which is its form
pub of_form : (bytes line rest : List ℕ) (form : LineForm) (Told : Type 0) → (Told → IsOfForm line form) → SeenBy bytes line rest Told → IsSeenLine bytes line form rest
of_form bytes line rest form Told is h = record { joined = h.joined; ended = h.ended; told = is h.told }

-- the first line is white space, a word, and white space
pub lone_line : (bytes front text word behind end tail rest line : List ℕ) (size : ℕ)
    → bytes ≡ front ++ text → text ≡ word ++ behind → behind ≡ end ++ tail → tail ≡ 10 ∷ rest
    → list_all is_white front ≡ true → 0 < length word → list_all is_ink word ≡ true → list_all is_white end ≡ true
    → size ≡ length front + length word + length end → line ≡ take size bytes → SeenBy bytes line rest (IsLoneWord line word)
lone_line bytes front text word behind end tail rest line size b t h g f l w e s is =
    let own = front ++ (word ++ end) in
    let whole : bytes ≡ own ++ 10 ∷ rest =
    b ∙ ap (λ x. front ++ x) (t ∙ ap (λ x. word ++ x) (h ∙ ap (λ x. end ++ x) g))
    ∙ ap (λ x. front ++ x) (sym (append_assoc word end (10 ∷ rest))) ∙ sym (append_assoc front (word ++ end) (10 ∷ rest)) in
    let told = lone_of front word end f l w e in
    seen bytes own rest line (λ x. IsLoneWord x word) whole
    (own_line bytes own rest line size whole (omega (arith, s, length-append front (word ++ end), length-append word end)) is)
    (has-not is_plain 10 own told.plain refl) told

-- bytes of a range of ink
ink_between : (low high b : ℕ) → (nat_le low b && nat_le b high) ≡ true → (low ≤ high) × (33 ≤ low) × (high ≤ 126) → (high < 35) ⊎ (35 < low)
    → (high < 61) ⊎ (61 < low) → is_ink b ≡ true
ink_between low high b h fits hash equals =
    let p = and_parts (nat_le low b) (nat_le b high) h in
    let from : low ≤ b = leb-true low b p.0 in
    let to : b ≤ high = leb-true b high p.1 in
    rw (
      ne_eqb b 9 (λ e. omega (arith, from, fits, e)),
      ne_eqb b 13 (λ e. omega (arith, from, fits, e)),
      ne_eqb b 32 (λ e. omega (arith, from, fits, e)),
      ne_eqb b 35 (λ e. omega (arith, from, to, hash, e)),
      ne_eqb b 61 (λ e. omega (arith, from, to, equals, e)),
      le-leb 33 b (omega (arith, from, fits)),
      le-leb b 126 (omega (arith, to, fits)),
    ) refl

-- a byte of a prefix's word is ink
prefix_byte : (b : ℕ) → is_prefix_byte b ≡ true → is_ink b ≡ true
prefix_byte b h = elim (or_cases (nat_le 46 b && nat_le b 58) ((nat_le 65 b && nat_le b 70) || (nat_le 97 b && nat_le b 102)) h) [
  | inl t ↦ ink_between 46 58 b t (omega arith, omega arith, omega arith) (inr (omega arith)) (inl (omega arith))
  | inr k ↦ elim (or_cases (nat_le 65 b && nat_le b 70) (nat_le 97 b && nat_le b 102) k) [
    | inl t ↦ ink_between 65 70 b t (omega arith, omega arith, omega arith) (inr (omega arith)) (inr (omega arith))
    | inr t ↦ ink_between 97 102 b t (omega arith, omega arith, omega arith) (inr (omega arith)) (inr (omega arith))
  ]
]

prefix_bytes : (bs : List ℕ) → list_all is_prefix_byte bs ≡ true → list_all is_ink bs ≡ true
prefix_bytes [] h = refl
prefix_bytes (b ∷ bs) h =
    let p = and_parts (is_prefix_byte b) (list_all is_prefix_byte bs) h in
    and_from (is_ink b) (list_all is_ink bs) (prefix_byte b p.0) (prefix_bytes bs p.1)

-- the first line is white space, the word of a prefix, and white space
pub prefix_line : (bytes front text : List ℕ) (word : Bor (List ℕ)) (rest1 behind end tail rest line : List ℕ) (p : Prefix) (size : ℕ)
    → bytes ≡ front ++ text → IsPrefixFront text rest1 p → word.now ≡ take (length text - length rest1) text → behind ≡ drop (length text - length rest1) text
    → behind ≡ end ++ tail → tail ≡ 10 ∷ rest → list_all is_white front ≡ true → list_all is_white end ≡ true
    → size ≡ length front + length word.now + length end → line ≡ take size bytes → IsSeenLine bytes line (LonePrefix word p) rest
prefix_line bytes front text word rest1 behind end tail rest line p size b d t k h g f e s is =
    let long : length d.word ≡ length text - length rest1 = omega (arith, ap (λ (x : List ℕ). length x) d.text_is, length-append d.word rest1) in
    let own : word.now ≡ d.word = t ∙ ap (take (length text - length rest1)) d.text_is ∙ take_at d.word rest1 (length text - length rest1) long in
    let lone = lone_line bytes front text word.now behind end tail rest line size b (split_whole text word.now behind (length text - length rest1) t k) h g f
    (subst (λ (x : List ℕ). 0 < length x) (sym own) (d.nonempty))
    (ap (λ (x : List ℕ). list_all is_ink x) own ∙ prefix_bytes d.word d.bytes) e s is in
    record {
      joined = lone.joined;
      ended = lone.ended;
      told = (lone.told, subst (λ x. IsPrefixText x p) (sym own) d.prefix_is);
    }

pub seen_lines : (bytes line : List ℕ) (form : LineForm) (rest : List ℕ) → IsSeenLine bytes line form rest → lines_of bytes ≡ line ∷ lines_of rest
seen_lines bytes line form rest d =
    lines_step bytes line rest (ap first_line d.joined ∙ ap (or_all (line ++ 10 ∷ rest)) (cut-again 10 line rest d.ended))

pub seen_shorter : (bytes line : List ℕ) (form : LineForm) (rest : List ℕ) → IsSeenLine bytes line form rest → length rest < length bytes
seen_shorter bytes line form rest d = omega (arith, ap (λ (t : List ℕ). length t) d.joined, length-append line (10 ∷ rest))

-- the first line is plain
pub plain_line : (bytes line tail rest : List ℕ) → bytes ≡ line ++ tail → tail ≡ 10 ∷ rest → list_all is_plain line ≡ true → IsSeenLine bytes line Plain rest
plain_line bytes line tail rest b t p = record {
  joined = b ∙ ap (λ x. line ++ x) t;
  ended = has-not is_plain 10 line p refl;
  told = p;
}

-- ---- names

blank_end : (blank : List ℕ) → list_all is_white blank ≡ true → without_end blank ≡ []
blank_end [] h = refl
blank_end (b ∷ blank) h =
    let p = and_parts (is_white b) (list_all is_white blank) h in
    ap (in_front_of b) (blank_end blank p.1) ∙ cond-true (is_white b) _ _ p.0

name_end : (b : ℕ) (name blank : List ℕ) → list_all is_ink (b ∷ name) ≡ true → list_all is_white blank ≡ true → without_end (b ∷ (name ++ blank)) ≡ b ∷ name
name_end b [] blank h k =
    let ink = and_parts (is_plain b) (not (is_white b)) (and_parts (is_ink b) true h).0 in
    ap (in_front_of b) (blank_end blank k) ∙ cond-false (is_white b) _ _ (not_true (is_white b) ink.1)
name_end b (c ∷ name) blank h k =
    ap (in_front_of b) (name_end c name blank (and_parts (is_ink b) (list_all is_ink (c ∷ name)) h).1 k)

name_trimmed : (name blank : List ℕ) → 0 < length name → list_all is_ink name ≡ true → list_all is_white blank ≡ true → trimmed (name ++ blank) ≡ name
name_trimmed [] blank l h k = absurd (omega arith)
name_trimmed (b ∷ name) blank l h k =
    let ink = and_parts (is_plain b) (not (is_white b)) (and_parts (is_ink b) (list_all is_ink name) h).0 in
    ap without_end (cond-false (is_white b) _ _ (not_true (is_white b) ink.1)) ∙ name_end b name blank h k

white_trimmed : (front bs : List ℕ) → list_all is_white front ≡ true → trimmed (front ++ bs) ≡ trimmed bs
white_trimmed [] bs h = refl
white_trimmed (b ∷ front) bs h =
    let p = and_parts (is_white b) (list_all is_white front) h in
    ap without_end (cond-true (is_white b) _ _ p.0) ∙ white_trimmed front bs p.1

-- white space, a name, white space, `=` and plain items
named_of : (front name blank items : List ℕ) → list_all is_white front ≡ true → 0 < length name → list_all is_ink name ≡ true
    → list_all is_white blank ≡ true → list_all is_plain items ≡ true → IsNamed ((front ++ (name ++ blank)) ++ 61 ∷ items) name items
named_of front name blank items f l n w i =
    let ahead = front ++ (name ++ blank) in
    let plain = joined_all is_plain front (name ++ blank) (white_all front f) (joined_all is_plain name blank (ink_all name n) (white_all blank w)) in
    record {
      front = ahead;
      plain = record {
        cut = sym (cut-again 61 ahead items (has-not is_plain 61 ahead plain refl));
        name_plain = plain;
        rest_plain = i;
      };
      own = white_trimmed front (name ++ blank) f ∙ name_trimmed name blank l n w;
    }

pub named_line : (bytes front text word behind blank tail text2 items end rest line : List ℕ) (size : ℕ)
    → bytes ≡ front ++ text → text ≡ word ++ behind → behind ≡ blank ++ tail → tail ≡ 61 ∷ text2 → text2 ≡ items ++ end → end ≡ 10 ∷ rest
    → list_all is_white front ≡ true → 0 < length word → list_all is_ink word ≡ true → list_all is_white blank ≡ true → list_all is_plain items ≡ true
    → size ≡ length front + length word + length blank + 1 + length items → line ≡ take size bytes → SeenBy bytes line rest (IsNamed line word items)
named_line bytes front text word behind blank tail text2 items end rest line size b t h g k m f l w e i s is =
    let ahead = front ++ (word ++ blank) in
    let own = ahead ++ 61 ∷ items in
    let whole : bytes ≡ own ++ 10 ∷ rest =
    b ∙ ap (λ x. front ++ x) (t ∙ ap (λ x. word ++ x) (h ∙ ap (λ x. blank ++ x) (g ∙ ap (λ x. 61 ∷ x) (k ∙ ap (λ x. items ++ x) m))))
    ∙ ap (λ x. front ++ x) (sym (append_assoc word blank (61 ∷ (items ++ 10 ∷ rest)))) ∙ sym (append_assoc front (word ++ blank) (61 ∷ (items ++ 10 ∷ rest)))
    ∙ sym (append_assoc ahead (61 ∷ items) (10 ∷ rest)) in
    let told = named_of front word blank items f l w e i in
    let ended : has_byte 10 own ≡ false = has-append 10 ahead (61 ∷ items)
    (has-not is_plain 10 ahead (joined_all is_plain front (word ++ blank) (white_all front f) (joined_all is_plain word blank (ink_all word w) (white_all blank e))) refl)
    (has-not is_plain 10 items i refl) in
    seen bytes own rest line (λ x. IsNamed x word items) whole
    (own_line bytes own rest line size whole
    (omega (arith, s, length-append ahead (61 ∷ items), length-append front (word ++ blank), length-append word blank)) is)
    ended told

-- ---- what a line of one word adds

ends_there : (o : TableOrSlip) → (o >>= λ ds. Ok ds) ≡ o
ends_there (Ok ds) = refl
ends_there (Err s) = refl

pub lone_added : (kind : NamingKind) (place : Place) (is_open : Bool) (ds : List Definition) (line word : List ℕ) → is_open ≡ true → IsLoneWord line word
    → line_added kind place is_open ds (without_comment line) ≡ item_added kind place ds word
lone_added kind place is_open ds line word h d =
    plain_added kind place is_open ds line d.plain
    ∙ ap (with_items kind place is_open ds) d.words
    ∙ ap (λ b. with_items kind place b ds (word ∷ [])) h
    ∙ ends_there (item_added kind place ds word)

pub lone_opens : (is_open : Bool) (line word : List ℕ) → is_open ≡ true → IsLoneWord line word → true ≡ opens is_open (without_comment line)
lone_opens is_open line word h d = sym (plain_opens is_open line d.plain ∙ h)
