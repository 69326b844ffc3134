-- Texts of rows, each an indent and words.
use Rattle.std.specs.Prelude.{ℕ, Bool, ◌==◌, List, [], ◌∷◌, ◌++◌, replicate, flat_map, Option, None, Some}
use Rattle.std.specs.List.{slice_split, join_with_byte}

pub record Row : Type 0 where
  pub indent : ℕ
  pub words : List (List ℕ)

abbrev pub row : ℕ → List (List ℕ) → Row
row indent words = record { indent = indent; words = words }

-- Words, each behind a space (RFC 20 section 5.2).
abbrev pub spaced : List (List ℕ) → List ℕ
spaced words = flat_map (λ w. 32 ∷ w) words

-- A row's line is its indent of spaces, and its words with one space between.
abbrev pub row_line : Row → List ℕ
row_line r = replicate r.indent 32 ++ join_with_byte 32 r.words

-- A text is the lines of its rows, each with a line feed behind it (POSIX.1 section 3.387).
unfoldable pub row_text : Row → List ℕ
row_text r = row_line r ++ 10 ∷ []

abbrev pub text_of_rows : List Row → List ℕ
text_of_rows rows = flat_map row_text rows

abbrev pub is_space : ℕ → Bool
is_space b = b == 32

-- The words of a free text: what stands between its spaces.
abbrev pub words_in : List ℕ → List (List ℕ)
words_in text = slice_split is_space text

-- The words of a part that may not be written.
abbrev pub or_nothing : {A : Type 0} → (A → List (List ℕ)) → Option A → List (List ℕ)
or_nothing words None = []
or_nothing words (Some part) = words part
