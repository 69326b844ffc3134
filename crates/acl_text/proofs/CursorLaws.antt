-- Lines are given one after the other, and so are words.
use Rattle.std.proofs.Common.{◌≡◌, ℕ, suc, ◌+◌, ◌-◌, ◌<◌, ◌≤◌, Bool, true, false, cond, not, ◌==◌, ◌≢◌, List, [], ◌∷◌, ◌++◌, length, get_or, take, drop, Option, None, Some, inl, inr, refl, ap, sym, ◌∙◌, arith, one-add, add-zero}
use Rattle.std.specs.List.{prefix_len, slice_range}
use Rattle.std.proofs.lemmas.Bool.{cond-true, cond-false, or_parts, cases_Bool, cases_lt, eq-eqb, eqb-true}
use Rattle.std.proofs.lemmas.Option.{none-some, some_pair_parts}
use Rattle.std.proofs.lemmas.List.{get_or-drop, drop-drop, length-drop, length-append, drop_all}
use Rattle.std.proofs.lemmas.List.Sums.{prefix_len-le-length, prefix_len_passes, prefix_len_stops}
use Rattle.acl_text.specs.Cuts.{cut_at, has_byte}
use Rattle.acl_text.specs.Cursors.{onto_first, lines_of, all_or_none, or_all, first_line, is_white, is_black, begins_black, words_of, IsNextWord, HasNoWord, run_end, word_to, word_at}
use Rattle.acl_packet.proofs.ChoiceLaws.{refused}
use Rattle.acl_text.proofs.CutLaws.{cut-found, none-cut}

-- ---- lines

line_front : (xs ys : List ℕ) → has_byte 10 xs ≡ false → lines_of (xs ++ 10 ∷ ys) ≡ xs ∷ lines_of ys
line_front [] ys h = refl
line_front (x ∷ xs) ys h =
    let p = or_parts (x == 10) (has_byte 10 xs) h in
    cond-false (x == 10) _ _ p.0 ∙ ap (onto_first x) (line_front xs ys p.1)

line_last : (b : ℕ) (bs : List ℕ) → has_byte 10 (b ∷ bs) ≡ false → lines_of (b ∷ bs) ≡ (b ∷ bs) ∷ []
line_last b [] h = cond-false (b == 10) _ _ (or_parts (b == 10) false h).0
line_last b (c ∷ bs) h =
    let p = or_parts (b == 10) (has_byte 10 (c ∷ bs)) h in
    cond-false (b == 10) _ _ p.0 ∙ ap (onto_first b) (line_last c bs p.1)

cut_lines : (bs xs ys : List ℕ) → cut_at 10 bs ≡ Some (xs, ys) → lines_of bs ≡ xs ∷ lines_of ys
cut_lines bs xs ys e = let p = cut-found 10 bs xs ys e in ap lines_of p.0 ∙ line_front xs ys p.1

uncut_lines : (bs xs ys : List ℕ) → has_byte 10 bs ≡ false → all_or_none bs ≡ Some (xs, ys) → lines_of bs ≡ xs ∷ lines_of ys
uncut_lines [] xs ys h e = absurd (none-some (xs, ys) e)
uncut_lines (b ∷ bs) xs ys h e =
    let p = some_pair_parts (b ∷ bs) xs [] ys e in
    line_last b bs h ∙ ap (λ t. t ∷ []) p.0 ∙ ap (λ t. xs ∷ lines_of t) p.1

one_line : (bs xs ys : List ℕ) (o : Option (List ℕ × List ℕ)) → cut_at 10 bs ≡ o → or_all bs o ≡ Some (xs, ys) → lines_of bs ≡ xs ∷ lines_of ys
one_line bs xs ys None c e = uncut_lines bs xs ys (none-cut 10 bs c) e
one_line bs xs ys (Some p) c e = cut_lines bs xs ys (c ∙ e)

-- the first line, and the lines of what stands behind it
pub lines_step : (bs xs ys : List ℕ) → first_line bs ≡ Some (xs, ys) → lines_of bs ≡ xs ∷ lines_of ys
lines_step bs xs ys e = one_line bs xs ys (cut_at 10 bs) refl e

pub cut_shorter : (bs xs ys : List ℕ) → cut_at 10 bs ≡ Some (xs, ys) → length ys < length bs
cut_shorter bs xs ys e = omega (arith, ap length (cut-found 10 bs xs ys e).0, length-append xs (10 ∷ ys))

no_bytes : (bs : List ℕ) (o : Option (List ℕ × List ℕ)) → or_all bs o ≡ None → lines_of bs ≡ []
no_bytes bs (Some p) e = absurd (none-some p (sym e))
no_bytes [] None e = refl
no_bytes (b ∷ bs) None e = absurd (none-some (b ∷ bs, []) (sym e))

pub lines_end : (bs : List ℕ) → first_line bs ≡ None → lines_of bs ≡ []
lines_end bs e = no_bytes bs (cut_at 10 bs) e

-- ---- runs of bytes

pub run_from : (test : ℕ → Bool) (line : List ℕ) (from : ℕ) → from ≤ length line → run_end test line from ≤ length line
run_from test line from h = omega (arith, prefix_len-le-length test (drop from line), length-drop from line)

pub run_passes : (test : ℕ → Bool) (line : List ℕ) (from k : ℕ) → from ≤ k → k < run_end test line from → test (get_or line k 0) ≡ true
run_passes test line from k h l =
    let there : from + (k - from) ≡ k = omega arith in
    let within : k - from < prefix_len test (drop from line) = omega arith in
    ap (λ i. test (get_or line i 0)) (sym there) ∙ ap test (sym (get_or-drop from line (k - from) 0))
    ∙ prefix_len_passes test (drop from line) (k - from) 0 within

pub run_stops : (test : ℕ → Bool) (line : List ℕ) (from : ℕ) → from ≤ length line → run_end test line from < length line
    → test (get_or line (run_end test line from) 0) ≡ false
run_stops test line from h l =
    let within : prefix_len test (drop from line) < length (drop from line) = omega (arith, length-drop from line) in
    ap test (sym (get_or-drop from line (prefix_len test (drop from line)) 0)) ∙ prefix_len_stops test (drop from line) 0 within

not_true : (b : Bool) → not b ≡ true → b ≡ false
not_true true h = sym h
not_true false h = refl

not_false : (b : Bool) → not b ≡ false → b ≡ true
not_false true h = refl
not_false false h = sym h

-- a byte that is not white space begins a word
more_black : (line : List ℕ) (from : ℕ) → from < length line → is_white (get_or line from 0) ≡ false → from < run_end is_black line from
more_black line from h w = elim (cases_lt from (run_end is_black line from)) [
  | inl l ↦ l
  | inr g ↦ absurd (stuck line from h w (omega arith))
]
  where
    both : (b : Bool) → b ≡ false → not b ≡ false → ⊥
    both true e n = cc
    both false e n = cc

    stuck : (line : List ℕ) (from : ℕ) → from < length line → is_white (get_or line from 0) ≡ false → run_end is_black line from ≡ from → ⊥
    stuck line from h w e = both (is_white (get_or line from 0)) w
        (ap (λ i. is_black (get_or line i 0)) (sym e) ∙ run_stops is_black line from (omega arith) (omega arith))

pub next_is : (line : List ℕ) (from start end : ℕ) → from ≤ length line → start ≡ run_end is_white line from → end ≡ run_end is_black line start
    → start < length line → IsNextWord line from start end
next_is line from start end h e f l =
    let black : is_white (get_or line start 0) ≡ false =
    ap (λ i. is_white (get_or line i 0)) e ∙ run_stops is_white line from h (omega (arith, e)) in
    record {
      starts = omega arith;
      nonempty = omega (arith, more_black line start l black);
      ends = omega (arith, run_from is_black line start (omega arith));
      before = λ k g m. run_passes is_white line from k g (omega (arith, e));
      inside = λ k g m. not_true (is_white (get_or line k 0)) (run_passes is_black line start k g (omega (arith, f)));
      behind = λ g. ap (λ i. is_white (get_or line i 0)) f
          ∙ not_false (is_white (get_or line (run_end is_black line start) 0)) (run_stops is_black line start (omega arith) (omega (arith, f)));
    }

pub none_is : (line : List ℕ) (from : ℕ) → run_end is_white line from ≡ length line → HasNoWord line from
none_is line from e = λ k h l. run_passes is_white line from k h (omega (arith, e))

-- ---- words

prefix_yes : (test : ℕ → Bool) (b : ℕ) (bs : List ℕ) → test b ≡ true → prefix_len test (b ∷ bs) ≡ suc (prefix_len test bs)
prefix_yes test b bs h = cond-true (test b) _ _ h ∙ one-add (prefix_len test bs)

prefix_no : (test : ℕ → Bool) (b : ℕ) (bs : List ℕ) → test b ≡ false → prefix_len test (b ∷ bs) ≡ 0
prefix_no test b bs h = cond-false (test b) _ _ h

words_white : (bs : List ℕ) → words_of bs ≡ words_of (drop (prefix_len is_white bs) bs)
words_white [] = refl
words_white (b ∷ bs) = elim (cases_Bool (is_white b)) [
  | inl t ↦ cond-true (is_white b) _ _ t ∙ words_white bs ∙ ap (λ n. words_of (drop n (b ∷ bs))) (sym (prefix_yes is_white b bs t))
  | inr f ↦ ap (λ n. words_of (drop n (b ∷ bs))) (sym (prefix_no is_white b bs f))
]

-- a byte alone, before white space or nothing
words_alone : (b : ℕ) (bs : List ℕ) → is_white b ≡ false → begins_black bs ≡ false → words_of (b ∷ bs) ≡ (b ∷ []) ∷ words_of bs
words_alone b bs h k = cond-false (is_white b) _ _ h ∙ cond-false (begins_black bs) _ _ k

words_joined : (b : ℕ) (bs : List ℕ) → is_white b ≡ false → begins_black bs ≡ true → words_of (b ∷ bs) ≡ onto_first b (words_of bs)
words_joined b bs h k = cond-false (is_white b) _ _ h ∙ cond-true (begins_black bs) _ _ k

-- a line's first word, and the words of what stands behind it
abbrev split_at : ℕ → List ℕ → List (List ℕ)
split_at n bs = take n bs ∷ words_of (drop n bs)

words_black : (b : ℕ) (bs : List ℕ) → is_white b ≡ false → words_of (b ∷ bs) ≡ split_at (prefix_len is_black (b ∷ bs)) (b ∷ bs)
words_black b [] h = words_alone b [] h refl ∙ ap (λ n. split_at n (b ∷ [])) (sym (prefix_yes is_black b [] (ap not h)))
words_black b (c ∷ bs) h =
    let one = prefix_yes is_black b (c ∷ bs) (ap not h) in
    elim (cases_Bool (is_white c)) [
      | inl t ↦ words_alone b (c ∷ bs) h (ap not t)
          ∙ ap (λ n. split_at n (b ∷ c ∷ bs)) (sym (one ∙ ap suc (prefix_no is_black c bs (ap not t))))
      | inr f ↦ words_joined b (c ∷ bs) h (ap not f) ∙ ap (onto_first b) (words_black c bs f) ∙ ap (λ n. split_at n (b ∷ c ∷ bs)) (sym one)
    ]

words_first : (bs : List ℕ) → 0 < length bs → is_white (get_or bs 0 0) ≡ false → words_of bs ≡ split_at (prefix_len is_black bs) bs
words_first [] l h = absurd (omega arith)
words_first (b ∷ bs) l h = words_black b bs h

-- the words from a place on: none where none is left, else the next one and those behind it
pub words_end : (line : List ℕ) (from : ℕ) → run_end is_white line from ≡ length line → words_of (drop from line) ≡ []
words_end line from e =
    words_white (drop from line) ∙ ap words_of (drop-drop (prefix_len is_white (drop from line)) from line ∙ drop_all (run_end is_white line from) line (omega (arith, e)))

pub words_step : (line : List ℕ) (from start end : ℕ) → from ≤ length line → start ≡ run_end is_white line from → end ≡ run_end is_black line start
    → start < length line → words_of (drop from line) ≡ slice_range line start end ∷ words_of (drop end line)
words_step line from start end h e f l =
    let n = prefix_len is_black (drop start line) in
    let black : is_white (get_or line start 0) ≡ false =
    ap (λ i. is_white (get_or line i 0)) e ∙ run_stops is_white line from h (omega (arith, e)) in
    let first : is_white (get_or (drop start line) 0 0) ≡ false = ap is_white (get_or-drop start line 0 0) ∙ ap (λ i. is_white (get_or line i 0)) (add-zero start) ∙ black in
    let long : 0 < length (drop start line) = omega (arith, length-drop start line) in
    let width : n ≡ end - start = omega (arith, f) in
    words_white (drop from line)
    ∙ ap words_of (drop-drop (prefix_len is_white (drop from line)) from line ∙ ap (λ i. drop i line) (sym e))
    ∙ words_first (drop start line) long first
    ∙ ap (λ t. t ∷ words_of (drop n (drop start line))) (ap (λ m. take m (drop start line)) width)
    ∙ ap (λ t. slice_range line start end ∷ words_of t) (drop-drop n start line ∙ ap (λ i. drop i line) (sym f))

bounds_of : (line : List ℕ) (start s e : ℕ) → word_to line start ≡ Some (s, e)
    → (start ≢ length line) × (start ≡ s) × (run_end is_black line start ≡ e)
bounds_of line start s e h =
    let p = refused (start == length line) (Some (start, run_end is_black line start)) (s, e) h in
    let q = some_pair_parts start s (run_end is_black line start) e p.1 in
    (differs (start == length line) start (length line) refl p.0, q.0, q.1)
  where
    differs : (b : Bool) (x y : ℕ) → (x == y) ≡ b → b ≡ false → x ≡ y → ⊥
    differs b x y c f g = both b (sym c ∙ eq-eqb x y g) f
      where
        both : (b : Bool) → b ≡ true → b ≡ false → ⊥
        both b t f = cc

-- the words from a place on: the next one, and those behind it
pub words_next : (line : List ℕ) (from start end : ℕ) → from ≤ length line → Some (start, end) ≡ word_at line from
    → (start < end) × (end ≤ length line) × (words_of (drop from line) ≡ slice_range line start end ∷ words_of (drop end line))
words_next line from start end h e =
    let b = bounds_of line (run_end is_white line from) start end (sym e) in
    let l : start < length line = omega (arith, b.0, b.1, run_from is_white line from h) in
    let f : end ≡ run_end is_black line start = sym b.2 ∙ ap (run_end is_black line) b.1 in
    let n = next_is line from start end h (sym b.1) f l in
    (n.nonempty, n.ends, words_step line from start end h (sym b.1) f l)

unbounded : (b : Bool) (x : ℕ × ℕ) → None ≡ cond b None (Some x) → b ≡ true
unbounded true x e = refl
unbounded false x e = absurd (none-some x e)

pub words_none : (line : List ℕ) (from : ℕ) → None ≡ word_at line from → words_of (drop from line) ≡ []
words_none line from e =
    let start = run_end is_white line from in
    words_end line from (eqb-true start (length line) (unbounded (start == length line) (start, run_end is_black line start) e))
