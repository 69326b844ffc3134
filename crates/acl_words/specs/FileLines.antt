-- All lines of a file at once.
use Rattle.std.specs.Prelude.{ℕ, ◌+◌, Bool, true, false, ◌==◌, ◌&&◌, ◌||◌, if◌then◌else◌, List, [], ◌∷◌, ◌++◌}
use Rattle.std.specs.List.{count_by}
use Rattle.acl_text.specs.declared.file_lines.Line.{Line}
use Rattle.acl_words.specs.Splices.{Splice}

-- The lines of a file, where the first of the texts is the line of this number.
abbrev pub lines_from : ℕ → ℕ → List (List ℕ) → List Line
lines_from file n [] = []
lines_from file n (text ∷ texts) =
    record { place = record { file = file; line = n }; text = text } ∷ lines_from file (n + 1) texts

-- so many lines more, of the file of this number
abbrev pub with_lines : ℕ → ℕ → List (List ℕ) → Splice → Splice
with_lines file n texts s = record s { lines = s.lines ++ lines_from file n texts }

-- Whether `#i` stands in the text, where this byte is before it. Where it does not, no include line does.
abbrev pub may_include : ℕ → List ℕ → Bool
may_include before [] = false
may_include before (b ∷ bs) = (before == 35 && b == 105) || may_include b bs

-- How many line feeds stand in the text.
abbrev pub feeds_in : List ℕ → ℕ
feeds_in text = count_by (λ b. b == 10) text

-- Whether the last line of a text, where it has one, ends in a line feed.
abbrev pub is_ended : List ℕ → Bool
is_ended [] = true
is_ended (b ∷ []) = b == 10
is_ended (b ∷ c ∷ bs) = is_ended (c ∷ bs)

-- The text with a line feed behind its last line.
abbrev pub with_end : List ℕ → List ℕ
with_end text = if is_ended text then text else text ++ 10 ∷ []
