-- The note of a term: a safe text made from its comments. The form is aclgen's own.
use Rattle.std.specs.Prelude.{ℕ, Bool, true, ◌==◌, if◌then◌else◌, List, [], ◌∷◌, take, map, flat_map}
use Rattle.std.specs.List.{join_with_byte}
use Rattle.acl_text.specs.Cursors.{lines_of, words_of}
use Rattle.acl_text.specs.Names.{is_safe_byte, is_safe_text}

-- `_` (95) stands for each byte that no safe text has.
abbrev pub safe_byte : ℕ → ℕ
safe_byte b = if is_safe_byte b then b else 95

-- The words of all lines, each byte made safe, with one space (32) between two words.
unfoldable pub safe_words : List ℕ → List ℕ
safe_words comments =
    join_with_byte 32 (map (λ word. map safe_byte word) (flat_map words_of (lines_of comments)))

-- The text less a space at its end.
abbrev pub without_end_space : List ℕ → List ℕ
without_end_space [] = []
without_end_space (b ∷ []) = if b == 32 then [] else b ∷ []
without_end_space (b ∷ c ∷ bs) = b ∷ without_end_space (c ∷ bs)

-- A note is cut to 80 bytes, and has no space at its end.
unfoldable pub note_of : List ℕ → List ℕ
note_of comments = without_end_space (take 80 (safe_words comments))

-- No note, or a safe text.
abbrev pub is_note : List ℕ → Bool
is_note [] = true
is_note (b ∷ bs) = is_safe_text (b ∷ bs)
