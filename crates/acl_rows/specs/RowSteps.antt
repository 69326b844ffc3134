-- Reading rows leniently: any bytes are rows.
use Rattle.std.specs.Prelude.{◌≡◌, ℕ, Bool, true, false, ◌==◌, List, [], ◌∷◌, map, drop, take, Option, None, Some}
use Rattle.std.specs.Borrow.{Bor}
use Rattle.std.specs.List.{AllByRecursion, fold, prefix_len, slice_split}
use Rattle.std.specs.Str.{bytes_eq}
use Rattle.acl_text.specs.Cuts.{has_byte}
use Rattle.acl_rows.specs.Rows.{Row, row, is_space, words_in}

abbrev pub is_feed : ℕ → Bool
is_feed b = b == 10

-- The row of a line: how many spaces it begins with, and the words behind them.
unfoldable pub row_in : List ℕ → Row
row_in line = row (prefix_len is_space line) (words_in (drop (prefix_len is_space line) line))

-- The rows of a text, and one without words for what stands behind the last line feed.
abbrev pub rows_in : List ℕ → List Row
rows_in text = map row_in (slice_split is_feed text)

-- What the bytes say, whatever they are: the sections of the draft that their rows leave.
abbrev pub document_in : {S D : Type 0} → (D → Row → D) → D → (D → List S) → List ℕ → List S
document_in step empty sections bytes = sections (fold step empty (rows_in bytes))

-- A word that can be found again in its row.
pub record IsWord (word : List ℕ) : Type 0 where
  pub no_space : has_byte 32 word ≡ false
  pub no_feed : has_byte 10 word ≡ false

abbrev pub AreWords : List (List ℕ) → Type 0
AreWords words = AllByRecursion IsWord words

-- The first word has a byte.
abbrev pub begins : List (List ℕ) → Bool
begins [] = false
begins ([] ∷ words) = false
begins ((b ∷ bs) ∷ words) = true

-- A row that can be found again in its text.
pub record IsRow (r : Row) : Type 0 where
  pub start : begins r.words ≡ true
  pub words : AreWords r.words

abbrev pub AreRows : List Row → Type 0
AreRows rows = AllByRecursion IsRow rows

-- The words that are left of a row: those of what is left of its text, if anything is.
abbrev pub words_left : Option (Bor (List ℕ)) → List (List ℕ)
words_left None = []
words_left (Some text) = words_in text.now

-- The first few words. No row of so many means something by their number.
abbrev pub few_in : List (List ℕ) → List (List ℕ)
few_in words = take 9 words

-- Whether the first word is that one.
abbrev pub begins_with : List ℕ → List (List ℕ) → Bool
begins_with word [] = false
begins_with word (w ∷ words) = bytes_eq w word
