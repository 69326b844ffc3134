-- Decimal numbers as words: `0`, or digits of which the first is not `0`.
use Rattle.std.specs.Prelude.{◌≡◌, ℕ, ◌+◌, ◌-◌, ◌*◌, ◌<◌, Bool, true, not, ◌&&◌, ◌||◌, ◌==◌, nat_lt, nat_le, if◌then◌else◌, List, [], ◌∷◌, length, slice_index, Option, Some, None}
use Rattle.std.specs.Str.{all_ascii_digits}
use Rattle.std.specs.Char.{is_ascii_digit}

-- What decimal digits are worth behind a number that was read before them.
abbrev pub worth : ℕ → List ℕ → ℕ
worth value [] = value
worth value (b ∷ bs) = worth (value * 10 + (b - 48)) bs

-- The word is the number's.
pub record IsNumber (bs : List ℕ) (n : ℕ) : Type 0 where
  pub nonempty : 0 < length bs
  pub digits : all_ascii_digits bs ≡ true
  -- a `0` in front stands alone
  pub front : slice_index bs 0 ≡ 48 → length bs ≡ 1
  pub value : worth 0 bs ≡ n

-- The number of digits behind a number that was read before them, where it is at most the limit.
unfoldable pub digits_in : ℕ → ℕ → List ℕ → Option ℕ
digits_in most value [] = Some value
digits_in most value (b ∷ bs) =
    if is_ascii_digit b && nat_le (value * 10 + (b - 48)) most
    then digits_in most (value * 10 + (b - 48)) bs else None

-- Whether there is a first byte, and it is no `0` before others.
abbrev pub has_front : List ℕ → Bool
has_front bs = nat_lt 0 (length bs) && (not (slice_index bs 0 == 48) || length bs == 1)

-- The number of the text, where it is one and at most the limit.
unfoldable pub number_in : ℕ → List ℕ → Option ℕ
number_in most bs = if has_front bs then digits_in most 0 bs else None
