-- How a note is gathered byte by byte.
use Rattle.std.specs.Prelude.{ℕ, Bool, true, false, ◌||◌, ◌==◌, nat_lt, if◌then◌else◌, List, [], ◌∷◌, ◌++◌, length}
use Rattle.acl_text.specs.Cursors.{is_white}
use Rattle.acl_text.specs.Notes.{safe_byte}

-- A line feed (10), or white space in a line.
abbrev pub is_gap : ℕ → Bool
is_gap b = b == 10 || is_white b

-- The byte, behind the space that is owed.
abbrev pub spaced : Bool → ℕ → List ℕ
spaced owed b = if owed then 32 ∷ safe_byte b ∷ [] else safe_byte b ∷ []

abbrev pub has_begun : List ℕ → Bool
has_begun text = nat_lt 0 (length text)

-- What is still to come of the text, where a space is owed, and where some word has begun.
abbrev pub text_left : Bool → Bool → List ℕ → List ℕ
text_left owed begun [] = []
text_left owed begun (b ∷ bs) =
    if is_gap b then text_left begun begun bs else spaced owed b ++ text_left false true bs
