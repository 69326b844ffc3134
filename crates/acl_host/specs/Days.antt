-- Days as text: a full-date of RFC 3339 section 5.6, of the years 0001 to 9999 of the Gregorian calendar. The
-- rule of leap years, the lengths of the months, and the count of days from 1970-01-01 as a sum of years, months
-- and days are words of jiff's Calendar.
use Rattle.std.specs.Prelude.{◌≡◌, ℕ, ◌+◌, ◌/◌, ◌%◌, ◌≤◌, ℤ, pos, List, [], ◌∷◌, ◌++◌}
use Rattle.jiff_core.specs.Calendar.{IsCivilDate, days_from_civil}

-- a number below 100 in two digits
abbrev pub two_digits : ℕ → List ℕ
two_digits n = (48 + n / 10) ∷ (48 + n % 10) ∷ []

-- The digits of a date, with dashes between.
abbrev pub full_date : ℕ → ℕ → ℕ → List ℕ
full_date year month day =
    two_digits (year / 100) ++ two_digits (year % 100) ++ 45 ∷ two_digits month
    ++ 45 ∷ two_digits day

-- The text is that of the day of this number: of a date that the calendar has, from the year 1 on.
pub record IsDayText (text : List ℕ) (number : ℤ) : Type 0 where
  pub year : ℕ
  pub month : ℕ
  pub day : ℕ
  pub from_year_1 : 1 ≤ year
  pub real : IsCivilDate (pos year) month day
  pub text_is : text ≡ full_date year month day
  pub number_is : number ≡ days_from_civil (pos year) month day
