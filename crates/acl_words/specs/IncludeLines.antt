-- What a line asks to include.
use Rattle.std.specs.Prelude.{ℕ, Bool, true, false, ◌==◌, ◌&&◌, ◌||◌, not, nat_le, nat_eq, if◌then◌else◌, List, [], ◌∷◌, length, drop, codes, Option, None, Some}
use Rattle.std.specs.List.{list_all, starts_with, slice_split}
use Rattle.acl_text.specs.Cursors.{is_white, without_white}
use Rattle.acl_text.specs.Cuts.{cut_at}

-- Nothing is asked for, or a file is wanted by its path, or the line names no path of the form that is taken:
-- then the text between the quotes, or no text where no quote closes it.
pub data Asked : Type 0 where
  Nothing : Asked
  Wrong : List ℕ → Asked
  Wanted : List ℕ → Asked

-- `'` or `"`
abbrev pub is_quote : ℕ → Bool
is_quote b = b == 39 || b == 34

-- from space to `~`
abbrev pub is_printable : ℕ → Bool
is_printable b = nat_le 32 b && nat_le b 126

-- a part of a path is not empty, and no step to the same or the upper folder
abbrev pub is_part : List ℕ → Bool
is_part [] = false
is_part (b ∷ []) = not (b == 46)
is_part (b ∷ c ∷ []) = not (b == 46 && c == 46)
is_part (b ∷ c ∷ d ∷ bs) = true

-- A path that may be included: at most 255 printable bytes, in good parts between slashes.
abbrev pub is_path : List ℕ → Bool
is_path path =
    nat_le (length path) 255 && list_all is_printable path
    && list_all is_part (slice_split (λ b. b == 47) path)

-- nothing, or a comment
abbrev pub is_comment : List ℕ → Bool
is_comment [] = true
is_comment (b ∷ bs) = b == 35

abbrev pub asked_path : Option (List ℕ × List ℕ) → Asked
asked_path None = Wrong []
asked_path (Some (path, rest)) =
    if is_path path && is_comment (without_white rest) then Wanted path
    else Wrong path

abbrev pub asked_quoted : List ℕ → Asked
asked_quoted [] = Nothing
asked_quoted (quote ∷ bs) = if is_quote quote then asked_path (cut_at quote bs) else Nothing

abbrev pub asked_behind : List ℕ → Asked
asked_behind [] = Nothing
asked_behind (b ∷ bs) = if is_white b then asked_quoted (without_white bs) else Nothing

abbrev pub asked_word : List ℕ → Asked
asked_word line =
    if starts_with nat_eq line (codes "#include") then asked_behind (drop 8 line)
    else Nothing

-- A line whose first word is `#include`, then white space, then a quote: its path runs to the next such quote,
-- and behind that only white space and a comment may stand.
abbrev pub asked_in : List ℕ → Asked
asked_in line = asked_word (without_white line)
