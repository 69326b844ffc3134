-- The bytes of a policy's text.
use Rattle.std.specs.Prelude.{ℕ, Bool, not, ◌&&◌, ◌||◌, ◌==◌, nat_eq, nat_le, if◌then◌else◌, List, [], ◌∷◌, Option, None, Some}
use Rattle.std.specs.List.{ends_with}
use Rattle.acl_text.specs.Cursors.{is_white}

-- `"`, `#`, `{` and `}`: each ends the word before it.
abbrev pub is_mark : ℕ → Bool
is_mark b = b == 34 || b == 35 || b == 123 || b == 125

-- A byte of a word: neither white space, nor a line feed, nor one of those.
abbrev pub in_run : ℕ → Bool
in_run b = not (is_white b || b == 10) && not (is_mark b)

-- The printable bytes of ASCII but for the space: the others are an error in a word.
abbrev pub is_printed : ℕ → Bool
is_printed b = nat_le 33 b && nat_le b 126

-- The first byte that no word may have.
abbrev pub first_bad : List ℕ → Option ℕ
first_bad [] = None
first_bad (b ∷ bs) = if is_printed b then first_bad bs else Some b

-- Whether the text ends in `:`.
abbrev pub ends_in_colon : List ℕ → Bool
ends_in_colon bs = ends_with nat_eq bs (58 ∷ [])
