-- Whole numbers as words: a number, or `-` (45) and a number above 0.
use Rattle.std.specs.Prelude.{◌≡◌, ℕ, ◌+◌, ◌-◌, ◌≤◌, ◌==◌, if◌then◌else◌, ℤ, pos, negsuc, List, [], ◌∷◌, Option, None, Some, option_map, option_and_then}
use Rattle.acl_packet.specs.Decimals.{IsNumber, number_in}

-- The word is the number's, which lies from minus the one limit to the other.
abbrev pub IsSignedWord : ℕ → ℕ → List ℕ → ℤ → Type 0
IsSignedWord below above word (pos n) = IsNumber word n × (n ≤ above)
IsSignedWord below above word (negsuc n) =
    (digits : List ℕ) × (word ≡ 45 ∷ digits) × IsNumber digits (n + 1) × (n + 1 ≤ below)

abbrev pub negative : ℕ → Option ℤ
negative n = if n == 0 then None else Some (negsuc (n - 1))

abbrev pub below_zero_in : ℕ → List ℕ → Option ℤ
below_zero_in below digits = option_and_then negative (number_in below digits)

abbrev pub from_zero_in : ℕ → List ℕ → Option ℤ
from_zero_in above word = option_map (λ n. pos n) (number_in above word)

-- The number of the word, where it is one and lies within the limits.
abbrev pub signed_in : ℕ → ℕ → List ℕ → Option ℤ
signed_in below above [] = None
signed_in below above (b ∷ bs) =
    if b == 45 then below_zero_in below bs else from_zero_in above (b ∷ bs)
