-- A file without `#i` has no include line: all its lines stand in the splice.
use Rattle.std.proofs.Common.{◌≡◌, ℕ, ◌+◌, ◌==◌, ◌&&◌, ◌<◌, Bool, true, false, cond, List, [], ◌∷◌, ◌++◌, length, Option, None, Some, Ok, IfSome, codes, nat_eq, refl, ap, sym, ◌∙◌, arith, append_assoc, append-nil}
use Rattle.std.specs.List.{All, AllByRecursion, starts_with}
use Rattle.std.proofs.lemmas.Bool.{cond-false, or_parts}
use Rattle.std.proofs.lemmas.List.Elements.{All-append, All-from_recursion}
use Rattle.acl_text.specs.declared.file_lines.Line.{Line}
use Rattle.acl_text.specs.Cursors.{is_white, onto_first, lines_of, without_white}
use Rattle.acl_text.specs.Answers.{Leaves}
use Rattle.acl_text.specs.Steps.{◌>>=◌}
use Rattle.acl_host.specs.Files.{File}
use Rattle.acl_host.specs.WholeFiles.{read_told}
use Rattle.acl_words.specs.FileLines.{lines_from, may_include, with_lines}
use Rattle.acl_words.specs.IncludeLines.{Nothing, asked_in, asked_word}
use Rattle.acl_words.specs.Splices.{Splice, is_long, with_file, with_line}
use Rattle.acl_words.specs.Splicing.{Include, behind_file, behind_include, behind_line, behind_lines}

-- No include line stands in the text, where this byte is before it.
abbrev Plain : ℕ → List ℕ → Type 0
Plain before text = may_include before text ≡ false

after_any : (before : ℕ) (text : List ℕ) → Plain before text → Plain 0 text
after_any before [] h = refl
after_any before (b ∷ bs) h = (or_parts (before == 35 && b == 105) (may_include b bs) h).1

-- The first of the lines, before which the byte stands, and all others.
abbrev ArePlain : ℕ → List (List ℕ) → Type 0
ArePlain before [] = Unit {0}
ArePlain before (text ∷ texts) = Plain before text × AllByRecursion (Plain 0) texts

all_plain : (before : ℕ) (texts : List (List ℕ)) → ArePlain before texts → AllByRecursion (Plain 0) texts
all_plain before [] h = tt
all_plain before (text ∷ texts) h = (after_any before text h.0, h.1)

onto_line : (before b : ℕ) (texts : List (List ℕ)) → (before == 35 && b == 105) ≡ false → ArePlain b texts
    → ArePlain before (onto_first b texts)
onto_line before b [] e h = (rw e refl, tt)
onto_line before b (text ∷ texts) e h = (rw (e, h.0) refl, h.1)

lines_are_plain : (before : ℕ) (bs : List ℕ) → Plain before bs → ArePlain before (lines_of bs)
lines_are_plain before [] h = tt
lines_are_plain before (b ∷ bs) h =
    let p = or_parts (before == 35 && b == 105) (may_include b bs) h in
    by (b == 10) p.0 (lines_are_plain b bs p.1)
  where
    by : (t : Bool) → (before == 35 && b == 105) ≡ false → ArePlain b (lines_of bs)
        → ArePlain before (cond t ([] ∷ lines_of bs) (onto_first b (lines_of bs)))
    by true e k = (refl, all_plain b (lines_of bs) k)
    by false e k = onto_line before b (lines_of bs) e k

other_word : (b : ℕ) (bs : List ℕ) → Plain b bs → asked_word (b ∷ bs) ≡ Nothing
other_word b [] h =
    let none : starts_with nat_eq (b ∷ []) (codes "#include") ≡ false = grind arith in
    cond-false (starts_with nat_eq (b ∷ []) (codes "#include")) _ _ none
other_word b (c ∷ bs) h =
    let e = (or_parts (b == 35 && c == 105) (may_include c bs) h).0 in
    let none : starts_with nat_eq (b ∷ c ∷ bs) (codes "#include") ≡ false = grind arith in
    cond-false (starts_with nat_eq (b ∷ c ∷ bs) (codes "#include")) _ _ none

nothing_asked : (before : ℕ) (text : List ℕ) → Plain before text → asked_in text ≡ Nothing
nothing_asked before [] h = refl
nothing_asked before (b ∷ bs) h =
    let p = or_parts (before == 35 && b == 105) (may_include b bs) h in
    by (is_white b) p.1 (nothing_asked b bs p.1)
  where
    by : (t : Bool) → Plain b bs → asked_in bs ≡ Nothing → asked_word (cond t (without_white bs) (b ∷ bs)) ≡ Nothing
    by true e k = k
    by false e k = other_word b bs e

lines_stand : (include : Include) (label : List ℕ) (file n : ℕ) (texts : List (List ℕ)) (s : Splice)
    → AllByRecursion (Plain 0) texts → behind_lines include label file n texts s ≡ Ok (with_lines file n texts s)
lines_stand include label file n [] s h = ap (λ (ls : List Line). Ok (record s { lines = ls })) (sym (append-nil s.lines))
lines_stand include label file n (text ∷ texts) s h =
    let line : Line = record { place = record { file = file; line = n }; text = text } in
    ap (λ a. behind_line include label file n text a s >>= behind_lines include label file (n + 1) texts) (nothing_asked 0 text h.0)
    ∙ lines_stand include label file (n + 1) texts (with_line file n text s) h.1
    ∙ ap (λ (ls : List Line). Ok (record s { lines = ls })) (append_assoc s.lines (line ∷ []) (lines_from file (n + 1) texts))

-- Behind a file without an include line.
pub whole_file : (include : Include) (label bytes : List ℕ) (s : Splice) → is_long s.size (length bytes) ≡ false
    → may_include 0 bytes ≡ false
    → behind_file include label bytes s ≡ Ok (with_lines (length s.labels) 1 (lines_of bytes) (with_file label (length bytes) s))
whole_file include label bytes s short h =
    cond-false (is_long s.size (length bytes)) _ _ short
    ∙ lines_stand include label (length s.labels) 1 (lines_of bytes) (with_file label (length bytes) s) (all_plain 0 (lines_of bytes) (lines_are_plain 0 bytes h))

pub whole_told : (told : Option (List File)) (levels file : ℕ) (folder label bytes : List ℕ) (s filed now : Splice) (x : Unit {0})
    → is_long s.size (length bytes) ≡ false → may_include 0 bytes ≡ false
    → file ≡ length s.labels → filed ≡ with_file label (length bytes) s → now ≡ with_lines file 1 (lines_of bytes) filed
    → IfSome told (λ fs. Leaves read_told now (Ok x) (behind_file (behind_include levels fs folder) label bytes s))
whole_told None levels file folder label bytes s filed now x short h f g e = tt
whole_told (Some fs) levels file folder label bytes s filed now x short h f g e =
    whole_file (behind_include levels fs folder) label bytes s short h
    ∙ ap (λ (n : ℕ). Ok (with_lines n 1 (lines_of bytes) (with_file label (length bytes) s))) (sym f)
    ∙ ap (λ (x : Splice). Ok (with_lines file 1 (lines_of bytes) x)) (sym g)
    ∙ ap Ok (sym e)

of_file : (file n count : ℕ) (texts : List (List ℕ)) → file < count
    → AllByRecursion (λ (l : Line). l.place.file < count) (lines_from file n texts)
of_file file n count [] h = tt
of_file file n count (text ∷ texts) h = (h, of_file file (n + 1) count texts h)

-- The files of the lines are among so many, and so is the file of further ones.
pub of_files : (lines : List Line) (file count : ℕ) (texts : List (List ℕ)) → All (λ (l : Line). l.place.file < count) lines → file < count
    → All (λ (l : Line). l.place.file < count) (lines ++ lines_from file 1 texts)
of_files lines file count texts h lt = All-append (λ (l : Line). l.place.file < count) lines (lines_from file 1 texts) h
    (All-from_recursion (λ (l : Line). l.place.file < count) (lines_from file 1 texts) (of_file file 1 count texts lt))
