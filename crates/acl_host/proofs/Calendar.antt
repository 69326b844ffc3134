-- Real dates, and the count of their days.
use Prim.Native.Nat.{zero, suc}
use Rattle.std.proofs.Common.{◌≡◌, ◌≢◌, ℕ, ◌+◌, ◌-◌, ◌*◌, ◌/◌, ◌%◌, ◌<◌, ◌≤◌, true, false, nat_le, nat_lt, if◌then◌else◌, ℤ, pos, negsuc, to_z, of_z, w16, w32, w64, ◌≤ℤ◌, ◌<ℤ◌, neg_ℤ, unsigned_abs, Some, refl, ap, subst, ◌∙◌, sym, arith}
use Rattle.std.proofs.lemmas.Bool.Decides.{nat_tests}
use Rattle.std.proofs.lemmas.Int.{ints, by_lt_z, to_z_pos, to_z-of_z}
use Rattle.jiff_core.specs.Calendar.{IsDate, IsCivilDate, days_in_year, days_in_month, days_from_civil, day_count, day_of_year, days_of_months, days_of_years}
use Rattle.jiff_core.proofs.CalendarLemmas.{day_count-lt_year, day_count-next_year, days_from_civil-day_count, day_count-later_year, day_count-day_of_year, day_of_year_bound, days_of_months_more, days_of_months_mono, days_of_months-zero, days_in_month_bounds}
use Rattle.acl_host.specs.Days.{IsDayText, full_date}
use Rattle.acl_host.specs.DaySteps.{is_real, real_day, two_in, digits_day, day_in, count_years, count_months, days_since_year_1, date_text}
use Rattle.std.specs.Char.{is_ascii_digit}

pub record IsRealDate (year month day : ℕ) : Type 0 where
  pub year_from : 1 ≤ year
  pub year_to : year ≤ 9999
  pub month_from : 1 ≤ month
  pub month_to : month ≤ 12
  pub day_from : 1 ≤ day
  pub day_to : day ≤ days_in_month (pos year) month

le_true : (a b : ℕ) → a ≤ b → nat_le a b ≡ true
le_true a b h = grind (arith, nat_tests)

pub real_is_real : (y m d : ℕ) → IsRealDate y m d → is_real y m d ≡ true
real_is_real y m d r = rw (
  le_true 1 y r.year_from,
  le_true 1 m r.month_from,
  le_true m 12
      r.month_to,
  le_true 1 d r.day_from,
  le_true d (days_in_month (pos y) m) r.day_to,
) refl

real_from_IsDate : (y m d : ℕ) → y ≢ 0 → IsDate (pos y) (pos m) (pos d) → IsRealDate y m d
real_from_IsDate y m d h e = record {
  year_from = omega arith;
  year_to = omega (arith, ints, e.0);
  month_from = omega (arith, ints, e.1);
  month_to = omega (arith, ints, e.1);
  day_from = omega (arith, ints, e.2);
  day_to = omega (arith, ints, e.2);
}

-- the parts of a date that the calendar has
pub real_answer : (y m d : ℕ) (year : ℤ) (month day : ℕ) (n : ℤ) → year ≡ pos y → pos month ≡ pos m
    → pos day ≡ pos d
    → n ≡ days_from_civil year month day → y ≢ 0 → IsDate (pos y) (pos m) (pos d)
    → Some n ≡ real_day y m d
real_answer y m d year month day n ye me de ne h real =
    let same_month : month ≡ m = cc in
    let same_day : day ≡ d = cc in
    let number : n ≡ days_from_civil (pos y) m d = cc in
    rw (real_is_real y m d (real_from_IsDate y m d h real)) (ap (λ (z : ℤ). Some z) number)

-- the first day of the year 1
pub year_1_count : day_count (pos 1) 1 1 ≡ 3652791
unfolding day_count days_of_years days_of_months
year_1_count = refl

year_1_first : (y : ℕ) → 1 ≤ y → 3652791 ≤ day_count (pos y) 1 1
year_1_first zero h = absurd (omega arith)
year_1_first (suc zero) h = omega (arith, year_1_count)
year_1_first (suc (suc k)) h =
    let from : neg_ℤ (pos 10000) ≤ℤ pos 1 = omega (arith, ints) in
    let later : pos 1 <ℤ pos (suc (suc k)) = omega (arith, ints) in
    omega (arith, year_1_count, day_count-later_year (pos 1) (pos (suc (suc k))) from later)

pub civil : (y m d : ℕ) → IsRealDate y m d → IsCivilDate (pos y) m d
civil y m d r =
    let low : neg_ℤ (pos 9999) ≤ℤ pos y = omega (arith, ints) in
    let high : pos y ≤ℤ pos 9999 = omega (arith, ints, r.year_to) in
    ((low, high), (r.month_from, r.month_to), (r.day_from, r.day_to))

-- no real date from the year 1 on is before its first day
pub count_from_year_1 : (y m d : ℕ) → 1 ≤ y → 1 ≤ d → 3652791 ≤ day_count (pos y) m d
count_from_year_1 y m d h day =
    omega (arith, year_1_first y h, day_count-day_of_year (pos y) m d day)

pub number_from_year_1 : (y m d : ℕ) → 1 ≤ y → 1 ≤ d → negsuc 719161 ≤ℤ days_from_civil (pos y) m d
number_from_year_1 y m d h day =
    omega (arith, ints, count_from_year_1 y m d h day, days_from_civil-day_count (pos y) m d)

pub number_of_parts : (y m d : ℕ) (year : ℤ) (month day : ℕ) (n : ℤ) → year ≡ pos y
    → pos month ≡ pos m → pos day ≡ pos d
    → n ≡ days_from_civil year month day → y ≢ 0 → IsDate (pos y) (pos m) (pos d)
    → negsuc 719161 ≤ℤ n
number_of_parts y m d year month day n ye me de ne h real =
    let same_month : month ≡ m = cc in
    let same_day : day ≡ d = cc in
    let number : n ≡ days_from_civil (pos y) m d = cc in
    let r = real_from_IsDate y m d h real in
    subst (λ (z : ℤ). negsuc 719161 ≤ℤ z) (sym number)
    (number_from_year_1 y m d r.year_from r.day_from)

-- a day from the first of the year 1 on lies in a year from 1 on
pub year_from_1 : (year : ℤ) (month day : ℕ) → IsCivilDate year month day
    → negsuc 719161 ≤ℤ days_from_civil year month day → pos 1 ≤ℤ year
year_from_1 year month day real h = by_lt_z {P = pos 1 ≤ℤ year} year (pos 1)
    (λ before. absurd (omega (
      arith,
      ints,
      year_1_count,
      day_count-lt_year year month day
          (pos 1) 1 1 real (omega arith) before,
      days_from_civil-day_count year month day,
    )))
    (λ later. later)

abbrev pair : ℕ → ℕ → ℕ × ℕ
pair a b = (a, b)

same_pair : (a b c d : ℕ) → a ≡ c → b ≡ d → pair a b ≡ pair c d
same_pair a b c d p q = ap (λ (k : ℕ). pair k b) p ∙ ap (pair c) q

next_below : (a b : ℕ) → a ≤ b → (b ≤ a → ⊥) → a + 1 ≤ b
next_below a b h k = elim (nat_le b a) as (λ v. nat_le b a ≡ v → a + 1 ≤ b) [
  | true ↦ λ e. let t : b ≤ a = grind (arith, nat_tests) in absurd (k t)
  | false ↦ λ e. grind (arith, nat_tests)
] refl

same_below : (a b : ℕ) → a ≤ b → (a < b → ⊥) → a ≡ b
same_below a b h k = elim (nat_lt a b) as (λ v. nat_lt a b ≡ v → a ≡ b) [
  | true ↦ λ e. let t : a < b = grind (arith, nat_tests) in absurd (k t)
  | false ↦ λ e. grind (arith, nat_tests)
] refl

-- a whole year lies before a day of a later year
year_passed : (first y m d days : ℕ) → IsRealDate y m d → first < y
    → days + day_count (pos first) 1 1 ≡ day_count (pos y) m d → days_in_year (pos first) ≤ days
year_passed first y m d days r h e =
    let from : neg_ℤ (pos 10000) ≤ℤ pos first = omega (arith, ints) in
    let later : pos first <ℤ pos y = omega (arith, ints) in
    omega (
      arith,
      r.day_from,
      day_count-later_year (pos first)
          (pos y) from later,
      day_count-day_of_year (pos y) m d r.day_from,
    )

-- the days of the year before a day of it
year_here : (y m d days : ℕ) → IsRealDate y m d
    → days + day_count (pos y) 1 1 ≡ day_count (pos y) m d
    → (days ≡ day_of_year (pos y) m d - 1) × (days < days_in_year (pos y))
year_here y m d days r e =
    let one : days + 1 ≡ day_of_year (pos y) m d =
    omega (arith, day_count-day_of_year (pos y) m d r.day_from) in
    (omega arith, omega (arith, day_of_year_bound (pos y) m d (civil y m d r)))

year_at : (first y m d days : ℕ) → IsRealDate y m d
    → days + day_count (pos first) 1 1 ≡ day_count (pos y) m d → first ≡ y
    → (days ≡ day_of_year (pos y) m d - 1) × (days < days_in_year (pos first))
year_at first y m d days r e q =
    let here = year_here y m d days r
    (subst (λ (k : ℕ). days + day_count (pos k) 1 1 ≡ day_count (pos y) m d) q e) in
    (here.0, subst (λ (k : ℕ). days < days_in_year (pos k)) (sym q) here.1)

next_year : (first y m d days : ℕ) → days_in_year (pos first) ≤ days
    → days + day_count (pos first) 1 1 ≡ day_count (pos y) m d
    → days - days_in_year (pos first) + day_count (pos (first + 1)) 1 1 ≡ day_count (pos y) m d
next_year first y m d days h e =
    let from : neg_ℤ (pos 10000) ≤ℤ pos first = omega (arith, ints) in
    omega (arith, day_count-next_year (pos first) (pos (first + 1)) from refl)

-- counting off whole years finds the year, and the days of it before the day
years_counted : (more first y m d days : ℕ) → IsRealDate y m d → first ≤ y → y < first + more
    → days + day_count (pos first) 1 1 ≡ day_count (pos y) m d
    → count_years more first days ≡ pair y (day_of_year (pos y) m d - 1)
unfolding count_years
years_counted zero first y m d days r low high e = absurd (omega arith)
years_counted (suc more) first y m d days r low high e =
    elim (nat_lt days (days_in_year (pos first))) as
    (λ v. nat_lt days (days_in_year (pos first)) ≡ v
    → (if v then (first, days) else count_years more (first + 1) (days - days_in_year (pos first)))
    ≡ pair y (day_of_year (pos y) m d - 1)) [
      | true ↦ λ t.
          let inside : days < days_in_year (pos first) = grind (arith, nat_tests) in
          let not_later : first < y → ⊥ = λ h. omega (arith, year_passed first y m d days r h e) in
          let same : first ≡ y = same_below first y low not_later in
          same_pair first days y (day_of_year (pos y) m d - 1) same
          (year_at first y m d days r e same).0
      | false ↦ λ t.
          let whole : days_in_year (pos first) ≤ days = grind (arith, nat_tests) in
          let not_here : y ≤ first → ⊥ = λ h. let q : first ≡ y = omega arith in
          omega (arith, (year_at first y m d days r e q).1) in
          let later : first + 1 ≤ y = next_below first y low not_here in
          let bound : y < first + 1 + more = omega arith in
          years_counted more (first + 1) y m d (days - days_in_year (pos first)) r later bound
          (next_year first y m d days whole e)
    ] refl

month_passed : (y first m d days : ℕ) → 1 ≤ first → first < m → 1 ≤ d
    → days + days_of_months (pos y) (first - 1) + 1 ≡ days_of_months (pos y) (m - 1) + d
    → days_in_month (pos y) first ≤ days
month_passed y first m d days one h from e =
    let before : first ≤ m - 1 = omega arith in
    omega (
      arith,
      days_of_months_more (pos y) first one,
      days_of_months_mono (pos y) first
          (m - 1) before,
    )

month_at : (y first m d days : ℕ) → d ≤ days_in_month (pos y) m → 1 ≤ d → first ≡ m
    → days + days_of_months (pos y) (first - 1) + 1 ≡ days_of_months (pos y) (m - 1) + d
    → (days ≡ d - 1) × (days < days_in_month (pos y) first)
month_at y first m d days to from q e =
    let here : days + days_of_months (pos y) (m - 1) + 1 ≡ days_of_months (pos y) (m - 1) + d =
    subst (λ (k : ℕ). days + days_of_months (pos y) (k - 1) + 1
    ≡ days_of_months (pos y) (m - 1) + d) q e in
    let below : days < days_in_month (pos y) m = omega arith in
    (omega arith, subst (λ (k : ℕ). days < days_in_month (pos y) k) (sym q) below)

next_month : (y first m d days : ℕ) → 1 ≤ first → days_in_month (pos y) first ≤ days
    → days + days_of_months (pos y) (first - 1) + 1 ≡ days_of_months (pos y) (m - 1) + d
    → days - days_in_month (pos y) first + days_of_months (pos y) (first + 1 - 1) + 1
    ≡ days_of_months (pos y) (m - 1) + d
next_month y first m d days one h e =
    let same : first + 1 - 1 ≡ first = omega arith in
    rw same (omega (arith, days_of_months_more (pos y) first one))

-- counting off whole months finds the month, and the days of it before the day
months_counted : (more y first m d days : ℕ) → 1 ≤ first → first ≤ m → m < first + more → 1 ≤ d
    → d ≤ days_in_month (pos y) m
    → days + days_of_months (pos y) (first - 1) + 1 ≡ days_of_months (pos y) (m - 1) + d
    → count_months more y first days ≡ pair m (d - 1)
unfolding count_months
months_counted zero y first m d days one low high from to e = absurd (omega arith)
months_counted (suc more) y first m d days one low high from to e =
    elim (nat_lt days (days_in_month (pos y) first)) as
    (λ v. nat_lt days (days_in_month (pos y) first) ≡ v
    → (if v then (first, days)
    else count_months more y (first + 1) (days - days_in_month (pos y) first)) ≡ pair m (d - 1)) [
      | true ↦ λ t.
          let inside : days < days_in_month (pos y) first = grind (arith, nat_tests) in
          let not_later : first < m
          → ⊥ = λ h. omega (arith, month_passed y first m d days one h from e) in
          let same : first ≡ m = same_below first m low not_later in
          same_pair first days m (d - 1) same (month_at y first m d days to from same e).0
      | false ↦ λ t.
          let whole : days_in_month (pos y) first ≤ days = grind (arith, nat_tests) in
          let not_here : m ≤ first → ⊥ = λ h. let q : first ≡ m = omega arith in
          omega (arith, (month_at y first m d days to from q e).1) in
          let later : first + 1 ≤ m = next_below first m low not_here in
          let bound : m < first + 1 + more = omega arith in
          let start : 1 ≤ first + 1 = omega arith in
          months_counted more y (first + 1) m d
          (days - days_in_month (pos y) first) start later bound from to
          (next_month y first m d days one whole e)
    ] refl

-- the days since the first day of the year 1
since_year_1 : (y m d : ℕ) → IsRealDate y m d
    → days_since_year_1 (days_from_civil (pos y) m d) + day_count (pos 1) 1 1
    ≡ day_count (pos y) m d
since_year_1 y m d r =
    omega (
      arith,
      ints,
      year_1_count,
      count_from_year_1 y m d r.year_from r.day_from,
      days_from_civil-day_count (pos y) m d,
    )

year_found : (y m d : ℕ) → IsRealDate y m d
    → count_years 9999 1 (days_since_year_1 (days_from_civil (pos y) m d))
    ≡ pair y (day_of_year (pos y) m d - 1)
year_found y m d r =
    let bound : y < 1 + 9999 = omega (arith, r.year_to) in
    years_counted 9999 1 y m d (days_since_year_1 (days_from_civil (pos y) m d)) r r.year_from bound
    (since_year_1 y m d r)

month_found : (y m d : ℕ) → IsRealDate y m d
    → count_months 12 y 1 (day_of_year (pos y) m d - 1) ≡ pair m (d - 1)
month_found y m d r =
    let bound : m < 1 + 12 = omega (arith, r.month_to) in
    let start : day_of_year (pos y) m d - 1 + days_of_months (pos y) (1 - 1) + 1
    ≡ days_of_months (pos y) (m - 1) + d =
    omega (arith, r.day_from, days_of_months-zero (pos y)) in
    let one : 1 ≤ 1 = omega arith in
    months_counted 12 y 1 m d
    (day_of_year (pos y) m d - 1) one r.month_from bound r.day_from r.day_to start

-- the text of a real date's day is the date's digits
pub text_of_real : (y m d : ℕ) → IsRealDate y m d
    → date_text (days_from_civil (pos y) m d) ≡ full_date y m d
unfolding date_text
text_of_real y m d r =
    let day : d - 1 + 1 ≡ d = omega (arith, r.day_from) in
    rw (year_found y m d r, month_found y m d r, day) refl

two_back : (n : ℕ) → n < 100 → two_in (48 + n / 10) (48 + n % 10) ≡ Some n
two_back n h =
    let tens : is_ascii_digit (48 + n / 10) ≡ true = grind (arith, nat_tests) in
    let ones : is_ascii_digit (48 + n % 10) ≡ true = grind (arith, nat_tests) in
    let value : (48 + n / 10 - 48) * 10 + (48 + n % 10 - 48) ≡ n = omega arith in
    rw (tens, ones, value) refl

-- the digits of a real date are read as its day
pub real_is_read : (y m d : ℕ) → IsRealDate y m d
    → day_in (full_date y m d) ≡ Some (days_from_civil (pos y) m d)
unfolding day_in digits_day
real_is_read y m d r =
    let short : y / 100 < 100 = omega (arith, r.year_to) in
    let rest : y % 100 < 100 = omega arith in
    let month : m < 100 = omega (arith, r.month_to) in
    let day : d < 100 = omega (arith, r.day_to, (days_in_month_bounds (pos y) m).0) in
    let year : y / 100 * 100 + y % 100 ≡ y = omega arith in
    rw (
      two_back (y / 100) short,
      two_back
          (y % 100) rest,
      two_back m month,
      two_back d day,
      year,
      real_is_real y m d r,
    ) refl

-- a day from the first of the year 1 on, by the parts of its date
pub record IsDayOf (year : ℤ) (month day : ℕ) (number : ℤ) : Type 0 where
  pub whole : ℕ
  pub year_is : year ≡ pos whole
  pub real : IsRealDate whole month day
  pub number_is : days_from_civil (pos whole) month day ≡ number

whole_year : (year : ℤ) → pos 1 ≤ℤ year → year ≡ pos (unsigned_abs year)
whole_year (pos n) h = refl
whole_year (negsuc n) h = absurd (omega (arith, ints, h))

pub day_of_parts : (year : ℤ) (month day : ℕ) (number : ℤ) → IsCivilDate year month day
    → days_from_civil year month day ≡ number → negsuc 719161 ≤ℤ number
    → IsDayOf year month day number
day_of_parts year month day number real e h =
    let from : pos 1 ≤ℤ year =
    year_from_1 year month day real (subst (λ (z : ℤ). negsuc 719161 ≤ℤ z) (sym e) h) in
    let y : year ≡ pos (unsigned_abs year) = whole_year year from in
    let bounds : IsCivilDate (pos (unsigned_abs year)) month day =
    subst (λ (z : ℤ). IsCivilDate z month day) y real in
    let first : pos 1 ≤ℤ pos (unsigned_abs year) = subst (λ (z : ℤ). pos 1 ≤ℤ z) y from in
    record {
      whole = unsigned_abs year;
      year_is = y;
      real = record {
        year_from = omega (arith, ints, first);
        year_to = omega (arith, ints, bounds.0.1);
        month_from = bounds.1.0;
        month_to = bounds.1.1;
        day_from = bounds.2.0;
        day_to = bounds.2.1;
      };
      number_is = subst (λ (z : ℤ). days_from_civil z month day ≡ number) y e;
    }

-- a year from 1 on as an unsigned number
pub year_cast : (year : ℤ) (y : ℕ) → year ≡ pos y → y ≤ 9999 → to_z w16 (of_z w16 year) ≡ pos y
year_cast year y e h = ap (λ (z : ℤ). to_z w16 (of_z w16 z)) e ∙ to_z_pos w16 y (omega arith)

pub text_of_day : (year : ℤ) (month day : ℕ) (number : ℤ) → (r : IsDayOf year month day number)
    → full_date r.whole month day ≡ date_text number
text_of_day year month day number r = sym (text_of_real r.whole month day r.real)
    ∙ ap date_text r.number_is

pub text_is_days : (year : ℤ) (month day : ℕ) (number : ℤ) → IsDayOf year month day number
    → IsDayText (date_text number) number
text_is_days year month day number r = record {
  year = r.whole;
  month = month;
  day = day;
  from_year_1 = r.real.year_from;
  real = civil r.whole month day r.real;
  text_is = sym (text_of_day year month day number r);
  number_is = sym r.number_is;
}

-- a day's number is the same in 32 and in 64 bits
pub same_in_32 : (n : ℤ) → negsuc 719161 ≤ℤ n → n ≤ℤ pos 2932896 → to_z w32 (of_z w32 n) ≡ n
same_in_32 (pos k) l h = to_z-of_z w32 (pos k) (record { sfits = omega (arith, ints, h) })
same_in_32 (negsuc k) l h = to_z-of_z w32 (negsuc k) (record { sfits = omega (arith, ints, l) })

pub same_in_64 : (n : ℤ) → negsuc 719161 ≤ℤ n → n ≤ℤ pos 2932896 → to_z w64 (of_z w64 n) ≡ n
same_in_64 (pos k) l h = to_z-of_z w64 (pos k) (record { sfits = omega (arith, ints, h) })
same_in_64 (negsuc k) l h = to_z-of_z w64 (negsuc k) (record { sfits = omega (arith, ints, l) })

-- the date of a day that was widened to 64 bits
pub day_of_date : (year : ℤ) (month day : ℕ) (number wide : ℤ) → IsCivilDate year month day
    → days_from_civil year month day ≡ to_z w64 (of_z w64 wide) → wide ≡ to_z w32 (of_z w32 number)
    → negsuc 719161 ≤ℤ number → number ≤ℤ pos 2932896 → IsDayOf year month day number
day_of_date year month day number wide real e w l h =
    let narrow : wide ≡ number = w ∙ same_in_32 number l h in
    let same : to_z w64 (of_z w64 wide) ≡ number = ap (λ (z : ℤ). to_z w64 (of_z w64 z)) narrow
    ∙ same_in_64 number l h in
    day_of_parts year month day number real (e ∙ same) l
