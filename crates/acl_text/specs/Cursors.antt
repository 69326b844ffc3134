-- The lines of a file, and the words of a line.
use Rattle.std.specs.Prelude.{◌≡◌, ℕ, ◌+◌, ◌<◌, ◌≤◌, Bool, true, false, not, ◌==◌, ◌||◌, if◌then◌else◌, List, [], ◌∷◌, length, drop, slice_index, Option, None, Some}
use Rattle.std.specs.List.{prefix_len}
use Rattle.acl_text.specs.Cuts.{cut_at}

-- The byte stands at the front of the first of the texts, or is the only text.
abbrev pub onto_first : ℕ → List (List ℕ) → List (List ℕ)
onto_first b [] = (b ∷ []) ∷ []
onto_first b (text ∷ texts) = (b ∷ text) ∷ texts

-- The lines of a file: a line is the bytes up to a line feed (10), or a rest that is not empty.
abbrev pub lines_of : List ℕ → List (List ℕ)
lines_of [] = []
lines_of (b ∷ bs) = if b == 10 then [] ∷ lines_of bs else onto_first b (lines_of bs)

-- What a cursor holds: its file, the number of the line last given, 0 before the first, and the lines that are
-- not yet given.
pub record Remaining : Type 0 where
  pub file : ℕ
  pub line : ℕ
  pub lines : List (List ℕ)

-- A line is given: it is the first of those that were left, and has the next number. None is given exactly
-- where none was left.
abbrev pub GivesLine : Remaining → Remaining → Option (List ℕ) → Type 0
GivesLine old new None = (old.lines ≡ []) × (new ≡ old)
GivesLine old new (Some line) =
    (old.lines ≡ line ∷ new.lines) × (new.line ≡ old.line + 1) × (new.file ≡ old.file)

-- The first line, and the bytes behind it.
abbrev pub all_or_none : List ℕ → Option (List ℕ × List ℕ)
all_or_none [] = None
all_or_none (b ∷ bs) = Some (b ∷ bs, [])

abbrev pub or_all : List ℕ → Option (List ℕ × List ℕ) → Option (List ℕ × List ℕ)
or_all bs (Some p) = Some p
or_all bs None = all_or_none bs

abbrev pub first_line : List ℕ → Option (List ℕ × List ℕ)
first_line bs = or_all bs (cut_at 10 bs)

-- White space in a line: horizontal tab, carriage return and space (RFC 20).
abbrev pub is_white : ℕ → Bool
is_white b = b == 9 || b == 13 || b == 32

abbrev pub is_black : ℕ → Bool
is_black b = not (is_white b)

-- The text behind the white space at its front.
abbrev pub without_white : List ℕ → List ℕ
without_white [] = []
without_white (b ∷ bs) = if is_white b then without_white bs else b ∷ bs

abbrev pub begins_black : List ℕ → Bool
begins_black [] = false
begins_black (b ∷ bs) = is_black b

-- The words of a line: its runs of bytes that are not white space.
abbrev pub words_of : List ℕ → List (List ℕ)
words_of [] = []
words_of (b ∷ bs) =
    if is_white b then words_of bs
    else if begins_black bs then onto_first b (words_of bs)
    else (b ∷ []) ∷ words_of bs

-- The next word from a place on stands from start to end: white space stands before it, and no white space in it,
-- and behind it stands white space or nothing.
pub record IsNextWord (line : List ℕ) (from start end : ℕ) : Type 0 where
  pub starts : from ≤ start
  pub nonempty : start < end
  pub ends : end ≤ length line
  pub before : (k : ℕ) → from ≤ k → k < start → is_white (slice_index line k) ≡ true
  pub inside : (k : ℕ) → start ≤ k → k < end → is_white (slice_index line k) ≡ false
  pub behind : end < length line → is_white (slice_index line end) ≡ true

-- No word is left from a place on.
abbrev pub HasNoWord : List ℕ → ℕ → Type 0
HasNoWord line from = (k : ℕ) → from ≤ k → k < length line → is_white (slice_index line k) ≡ true

-- Where the run of bytes that pass the test ends.
abbrev pub run_end : (ℕ → Bool) → List ℕ → ℕ → ℕ
run_end test line from = from + prefix_len test (drop from line)

-- The bounds of the next word.
abbrev pub word_to : List ℕ → ℕ → Option (ℕ × ℕ)
word_to line start =
    if start == length line then None else Some (start, run_end is_black line start)

abbrev pub word_at : List ℕ → ℕ → Option (ℕ × ℕ)
word_at line from = word_to line (run_end is_white line from)
