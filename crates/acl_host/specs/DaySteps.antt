-- The steps by which a day is read and put.
use Prim.Native.Nat.{zero, suc}
use Rattle.std.specs.Prelude.{ℕ, ◌+◌, ◌-◌, ◌*◌, Bool, ◌&&◌, ◌==◌, nat_le, nat_lt, if◌then◌else◌, ℤ, pos, ◌+ℤ◌, unsigned_abs, List, length, slice_index, Option, Some, None}
use Rattle.std.specs.Char.{is_ascii_digit}
use Rattle.jiff_core.specs.Calendar.{days_in_year, days_in_month, days_from_civil}
use Rattle.acl_text.specs.OptionSteps.{◌>>=◌}
use Rattle.acl_host.specs.Days.{full_date}

-- the number of two digits
abbrev pub two_in : ℕ → ℕ → Option ℕ
two_in a b =
    if is_ascii_digit a && is_ascii_digit b then Some ((a - 48) * 10 + (b - 48)) else None

-- the date is one of the calendar's, from the year 1 on
abbrev pub is_real : ℕ → ℕ → ℕ → Bool
is_real year month day =
    nat_le 1 year && (nat_le 1 month && nat_le month 12)
    && (nat_le 1 day && nat_le day (days_in_month (pos year) month))

-- the day of a real date, as the number of days since 1970-01-01
abbrev pub real_day : ℕ → ℕ → ℕ → Option ℤ
real_day year month day =
    if is_real year month day then Some (days_from_civil (pos year) month day) else None

-- the day of four, two and two digits
unfoldable pub digits_day : List ℕ → Option ℤ
digits_day word = do
  century ← two_in (slice_index word 0) (slice_index word 1)
  year ← two_in (slice_index word 2) (slice_index word 3)
  month ← two_in (slice_index word 5) (slice_index word 6)
  day ← two_in (slice_index word 8) (slice_index word 9)
  real_day (century * 100 + year) month day

-- ten bytes, with a `-` behind the year and behind the month
abbrev pub has_dashes : List ℕ → Bool
has_dashes word = length word == 10 && slice_index word 4 == 45 && slice_index word 7 == 45

-- The day that the word names, if it names one.
unfoldable pub day_in : List ℕ → Option ℤ
day_in word = if has_dashes word then digits_day word else None

-- The year that a day lies in and the days of the year before it: whole years are counted off, from the first on.
unfoldable pub count_years : ℕ → ℕ → ℕ → ℕ × ℕ
count_years zero year days = (year, days)
count_years (suc more) year days =
    if nat_lt days (days_in_year (pos year)) then (year, days)
    else count_years more (year + 1) (days - days_in_year (pos year))

-- The month, and the days of the month before it: likewise.
unfoldable pub count_months : ℕ → ℕ → ℕ → ℕ → ℕ × ℕ
count_months zero year month days = (month, days)
count_months (suc more) year month days =
    if nat_lt days (days_in_month (pos year) month) then (month, days)
    else count_months more year (month + 1) (days - days_in_month (pos year) month)

-- the days since 0001-01-01, which is 719,162 days before 1970-01-01
abbrev pub days_since_year_1 : ℤ → ℕ
days_since_year_1 number = unsigned_abs (number +ℤ pos 719162)

-- The text of a day, by its number.
unfoldable pub date_text : ℤ → List ℕ
date_text number =
    let y = count_years 9999 1 (days_since_year_1 number) in
    let m = count_months 12 y.0 1 y.1 in
    full_date y.0 m.0 (m.1 + 1)
