-- How a word of a table is told from a number.
use Rattle.std.specs.Prelude.{◌≡◌, ℕ, Bool, false, List, [], ◌∷◌}
use Rattle.std.specs.Char.{is_ascii_digit}
use Rattle.std.specs.List.{AllByRecursion}
use Rattle.acl_packet.specs.NumberWords.{NumberWord}

abbrev pub begins_with_digit : List ℕ → Bool
begins_with_digit [] = false
begins_with_digit (b ∷ bs) = is_ascii_digit b

-- No word of the table begins with a digit.
abbrev pub IsOfNames : List NumberWord → Type 0
IsOfNames table = AllByRecursion (λ r. begins_with_digit r.0 ≡ false) table
