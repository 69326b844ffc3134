-- The text of a file and its lines: how many there are, and the text that they make.
use Rattle.std.proofs.Common.{◌≡◌, ℕ, zero, suc, ◌+◌, ◌-◌, ◌≤◌, ◌==◌, nat_eq, slice_index_or, Bool, true, false, cond, List, [], ◌∷◌, ◌++◌, length, take, drop, flat_map, refl, ap, sym, ◌∙◌, arith}
use Rattle.std.proofs.lemmas.Bool.{eqb-true}
use Rattle.std.proofs.lemmas.List.{take-append-drop}
use Rattle.std.proofs.lemmas.List.Sums.{count_by-le-length, sum_by-append}
use Rattle.acl_text.specs.Cursors.{onto_first, lines_of}
use Rattle.acl_words.specs.FileLines.{feeds_in, is_ended, with_end}

last_at : (bs : List ℕ) (k : ℕ) → k + 1 ≡ length bs → nat_eq (slice_index_or bs k 0) 10 ≡ is_ended bs
last_at [] k e = absurd (omega (arith, e))
last_at (b ∷ []) zero e = refl
last_at (b ∷ []) (suc k) e = absurd (omega (arith, e))
last_at (b ∷ c ∷ bs) zero e = absurd (omega (arith, e))
last_at (b ∷ c ∷ bs) (suc k) e = last_at (c ∷ bs) k (omega (arith, e))

pub last_ends : (bs : List ℕ) → 1 ≤ length bs → nat_eq (slice_index_or bs (length bs - 1) 0) 10 ≡ is_ended bs
last_ends bs h = last_at bs (length bs - 1) (omega (arith, h))

-- a text that is not empty has a line
some_line : (c : ℕ) (cs : List ℕ) → (line : List ℕ) × (lines : List (List ℕ)) × (lines_of (c ∷ cs) ≡ line ∷ lines)
some_line c cs = by (c == 10)
  where
    onto : (ls : List (List ℕ)) → (line : List ℕ) × (lines : List (List ℕ)) × (onto_first c ls ≡ line ∷ lines)
    onto [] = (c ∷ [], [], refl)
    onto (l ∷ ls) = (c ∷ l, ls, refl)

    by : (t : Bool) → (line : List ℕ) × (lines : List (List ℕ)) × (cond t ([] ∷ lines_of cs) (onto_first c (lines_of cs)) ≡ line ∷ lines)
    by true = ([], lines_of cs, refl)
    by false = onto (lines_of cs)

-- ---- how many lines

abbrev rest : Bool → ℕ
rest ended = cond ended 0 1

same_count : (b : ℕ) (ls : List (List ℕ)) (line : List ℕ) (lines : List (List ℕ)) → ls ≡ line ∷ lines
    → length (onto_first b ls) ≡ length ls
same_count b ls line lines e = rw (e) refl

counted : (bs : List ℕ) → length (lines_of bs) ≡ feeds_in bs + rest (is_ended bs)
counted [] = refl
counted (b ∷ []) = by (b == 10)
  where
    by : (t : Bool) → length (cond t ([] ∷ []) ((b ∷ []) ∷ [])) ≡ 0 + cond t 1 0 + rest t
    by true = refl
    by false = refl
counted (b ∷ c ∷ bs) =
    by (b == 10) (counted (c ∷ bs))
    ∙ ap (λ n. n + rest (is_ended (c ∷ bs))) (sym (sum_by-append (λ x. cond (x == 10) 1 0) (b ∷ []) (c ∷ bs)))
  where
    ls : List (List ℕ)
    ls = lines_of (c ∷ bs)

    by : (t : Bool) → length ls ≡ feeds_in (c ∷ bs) + rest (is_ended (c ∷ bs))
        → length (cond t ([] ∷ ls) (onto_first b ls)) ≡ 0 + cond t 1 0 + feeds_in (c ∷ bs) + rest (is_ended (c ∷ bs))
    by true e = omega (arith, e)
    by false e = let s = some_line c bs in omega (arith, same_count b ls s.0 s.1 s.2, e)

pub line_count : (bs : List ℕ) (feeds : ℕ) (ended : Bool) → feeds ≡ feeds_in bs → ended ≡ is_ended bs
    → length (lines_of bs) ≡ feeds + rest ended
line_count bs feeds ended f e = counted bs ∙ ap (λ n. n + rest (is_ended bs)) (sym f) ∙ ap (λ t. feeds + rest t) (sym e)

pub feeds_parted : (n : ℕ) (text : List ℕ) → feeds_in text ≡ feeds_in (take n text) + feeds_in (drop n text)
feeds_parted n text = ap feeds_in (sym (take-append-drop n text)) ∙ sum_by-append (λ x. cond (x == 10) 1 0) (take n text) (drop n text)

pub feeds_within : (text : List ℕ) → feeds_in text ≤ length text
feeds_within text = count_by-le-length (λ b. b == 10) text

-- ---- the text of the lines

abbrev pub joined : List (List ℕ) → List ℕ
joined texts = flat_map (λ t. t ++ 10 ∷ []) texts

joined_onto : (b : ℕ) (ls : List (List ℕ)) (line : List ℕ) (lines : List (List ℕ)) → ls ≡ line ∷ lines
    → joined (onto_first b ls) ≡ b ∷ joined ls
joined_onto b ls line lines e = rw (e) refl

-- The lines of a text, each with its line feed, are the text with its last one.
pub joined_again : (bs : List ℕ) → joined (lines_of bs) ≡ with_end bs
joined_again [] = refl
joined_again (b ∷ []) = by (b == 10) refl
  where
    by : (t : Bool) → (b == 10) ≡ t → joined (cond t ([] ∷ []) ((b ∷ []) ∷ [])) ≡ cond t (b ∷ []) (b ∷ 10 ∷ [])
    by true e = ap (λ n. n ∷ []) (sym (eqb-true b 10 e))
    by false e = refl
joined_again (b ∷ c ∷ bs) = by (b == 10) refl (joined_again (c ∷ bs)) ∙ ends (is_ended (c ∷ bs))
  where
    ls : List (List ℕ)
    ls = lines_of (c ∷ bs)

    ends : (t : Bool) → b ∷ cond t (c ∷ bs) (c ∷ bs ++ 10 ∷ []) ≡ cond t (b ∷ c ∷ bs) (b ∷ c ∷ bs ++ 10 ∷ [])
    ends true = refl
    ends false = refl

    by : (t : Bool) → (b == 10) ≡ t → joined ls ≡ with_end (c ∷ bs)
        → joined (cond t ([] ∷ ls) (onto_first b ls)) ≡ b ∷ with_end (c ∷ bs)
    by true e h = ap (λ n. n ∷ joined ls) (sym (eqb-true b 10 e)) ∙ ap (λ t. b ∷ t) h
    by false e h = let s = some_line c bs in joined_onto b ls s.0 s.1 s.2 ∙ ap (λ t. b ∷ t) h
