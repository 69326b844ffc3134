-- Names of lists, filters and terms, and free texts.
use Rattle.std.specs.Prelude.{ℕ, Bool, true, false, not, ◌&&◌, ◌||◌, ◌==◌, nat_le, List, [], ◌∷◌, length}
use Rattle.std.specs.List.{list_all, list_any}
use Rattle.std.specs.Set.{is_member}
use Rattle.std.specs.Str.{bytes_eq}

-- Bytes of ASCII (RFC 20).
abbrev pub is_letter : ℕ → Bool
is_letter b = nat_le 65 b && nat_le b 90 || nat_le 97 b && nat_le b 122

abbrev pub is_digit : ℕ → Bool
is_digit b = nat_le 48 b && nat_le b 57

-- letters, digits, `-` and `_`
abbrev pub is_name_byte : ℕ → Bool
is_name_byte b = is_letter b || is_digit b || (b == 45 || b == 95)

-- A name has 1 to 128 such bytes.
abbrev pub is_name : List ℕ → Bool
is_name [] = false
is_name (b ∷ bs) = nat_le (length (b ∷ bs)) 128 && list_all is_name_byte (b ∷ bs)

-- The name of a filter or of an access list is a name that begins with a letter and has at most 64 bytes.
abbrev pub is_filter_name : List ℕ → Bool
is_filter_name [] = false
is_filter_name (b ∷ bs) =
    is_letter b && (nat_le (length (b ∷ bs)) 64 && list_all is_name_byte (b ∷ bs))

-- The bytes of a free text: those of names, `.`, `,`, `:` and the space. None of them ends a comment or a quote
-- in any of the languages.
abbrev pub is_safe_byte : ℕ → Bool
is_safe_byte b = is_name_byte b || (b == 46 || b == 44) || (b == 58 || b == 32)

-- Each space stands between two bytes that are none. The flag says that a space, or nothing, stands before.
abbrev pub single_spaced : Bool → List ℕ → Bool
single_spaced after [] = not after
single_spaced after (b ∷ bs) = not (after && b == 32) && single_spaced (b == 32) bs

-- A free text has 1 to 128 such bytes, no space at its ends and no two together.
abbrev pub is_safe_text : List ℕ → Bool
is_safe_text text =
    nat_le (length text) 128 && (list_all is_safe_byte text && single_spaced true text)

-- A name of the one list is a name of the other.
abbrev pub in_common : List (List ℕ) → List (List ℕ) → Bool
in_common names others = list_any (λ name. is_member bytes_eq others name) names
