-- Each day has a text: from the first day of the year 1 on, each day has a date, by the date of the day before it.
use Prim.Native.Nat.{zero, suc}
use Rattle.std.proofs.Common.{◌≡◌, ℕ, ◌+◌, ◌≤◌, ℤ, pos, negsuc, ◌≤ℤ◌, ◌+ℤ◌, unsigned_abs, Some, inl, inr, refl, ap, sym, subst, ◌∙◌, eq-or-lt_of_le, arith}
use Rattle.std.proofs.lemmas.Int.{ints}
use Rattle.jiff_core.specs.Calendar.{days_in_month, days_from_civil}
use Rattle.jiff_core.proofs.CalendarLemmas.{days_from_civil-day_count, days_in_month_bounds}
use Rattle.jiff_core.proofs.DateLemmas.{days_from_civil-day, days_from_civil-next_month, days_from_civil-next_year, days_from_civil-max}
use Rattle.jiff_core.proofs.SignedLemmas.{signed_arith}
use Rattle.acl_host.specs.declared.days.Day.{Day}
use Rattle.acl_host.specs.DaySteps.{date_text}
use Rattle.acl_host.specs.NamedDays.{day_named}
use Rattle.acl_host.proofs.Calendar.{IsRealDate, year_1_count, text_is_days}
use Rattle.acl_host.proofs.DayTextLaws.{day-text-read}
use Rattle.acl_host.proofs.NamedDayLaws.{is_named}

-- A day that has a date.
record Dated (z : ℤ) : Type 0 where
  year : ℕ
  month : ℕ
  day : ℕ
  real : IsRealDate year month day
  number_is : days_from_civil (pos year) month day ≡ z

first_dated : Dated (negsuc 719161)
first_dated = record {
  year = 1;
  month = 1;
  day = 1;
  real = record {
    year_from = omega arith;
    year_to = omega arith;
    month_from = omega arith;
    month_to = omega arith;
    day_from =
        omega arith;
    day_to = omega arith;
  };
  number_is = omega (arith, signed_arith, ints, days_from_civil-day_count (pos 1) 1 1, year_1_count);
}

next_dated : (z : ℤ) → Dated z → z ≤ℤ pos 2932895 → Dated (z +ℤ pos 1)
next_dated z d h = elim (eq-or-lt_of_le d.real.day_to) [
  | inr more ↦ record {
    year = d.year;
    month = d.month;
    day = d.day + 1;
    real = record {
      year_from = d.real.year_from;
      year_to = d.real.year_to;
      month_from = d.real.month_from;
      month_to =
          d.real.month_to;
      day_from = omega arith;
      day_to = omega (arith, more);
    };
    number_is = omega (
      arith,
      signed_arith,
      ints,
      d.number_is,
      days_from_civil-day (pos d.year) d.month d.day
          (d.day + 1) d.real.day_from (omega arith),
    );
  }
  | inl last ↦ elim (eq-or-lt_of_le d.real.month_to) [
    | inr later ↦ record {
      year = d.year;
      month = d.month + 1;
      day = 1;
      real = record {
        year_from = d.real.year_from;
        year_to = d.real.year_to;
        month_from = omega arith;
        month_to = omega (arith, later);
        day_from = omega arith;
        day_to = omega (arith, days_in_month_bounds (pos d.year) (d.month + 1));
      };
      number_is = days_from_civil-next_month (pos d.year) d.month d.day d.real.month_from last ∙ ap (λ n. n +ℤ pos 1) d.number_is;
    }
    | inl december ↦ year_ends december last
  ]
]
  where
    year_ends : d.month ≡ 12 → d.day ≡ days_in_month (pos d.year) d.month → Dated (z +ℤ pos 1)
    year_ends december last =
        let thirty_one : d.day ≡ 31 = last ∙ ap (days_in_month (pos d.year)) december in
        let number : days_from_civil (pos d.year) 12 31 ≡ z =
        (λ i. days_from_civil (pos d.year) (sym december i) (sym thirty_one i)) ∙ d.number_is in
        elim (eq-or-lt_of_le d.real.year_to) [
          | inr sooner ↦ record {
            year = d.year + 1;
            month = 1;
            day = 1;
            real = record {
              year_from = omega arith;
              year_to = omega (arith, sooner);
              month_from = omega arith;
              month_to =
                  omega arith;
              day_from = omega arith;
              day_to = omega arith;
            };
            number_is = days_from_civil-next_year (pos d.year) (pos (d.year + 1)) (omega (arith, ints)) (omega (arith, ints))
                ∙ ap (λ n. n +ℤ pos 1) number;
          }
          | inl at_end ↦ absurd (too_late (sym days_from_civil-max ∙ ap (λ y. days_from_civil (pos y) 12 31) (sym at_end) ∙ number))
        ]
      where
        too_late : pos 2932896 ≡ z → ⊥
        too_late e = omega (arith, ints, h, e)

dated_from : (k : ℕ) → k ≤ 3652058 → Dated (negsuc 719161 +ℤ pos k)
dated_from zero h = first_dated
dated_from (suc k) h =
    let same : (negsuc 719161 +ℤ pos k) +ℤ pos 1 ≡ negsuc 719161 +ℤ pos (suc k) = omega (arith, ints) in
    subst Dated same (next_dated (negsuc 719161 +ℤ pos k) (dated_from k (omega arith)) (omega (arith, ints, h)))

dated : (d : Day) → Dated d.number
dated d =
    let k : ℕ = unsigned_abs (d.number +ℤ pos 719162) in
    let same : negsuc 719161 +ℤ pos k ≡ d.number = whole d.number d.from_year_1 in
    subst Dated same (dated_from k (small d.number d.from_year_1 d.to_year_9999))
  where
    whole : (z : ℤ) → negsuc 719161 ≤ℤ z → negsuc 719161 +ℤ pos (unsigned_abs (z +ℤ pos 719162)) ≡ z
    whole (pos n) h = omega (arith, ints)
    whole (negsuc n) h = omega (arith, ints, h)

    small : (z : ℤ) → negsuc 719161 ≤ℤ z → z ≤ℤ pos 2932896 → unsigned_abs (z +ℤ pos 719162) ≤ 3652058
    small (pos n) h k = omega (arith, ints, k)
    small (negsuc n) h k = omega (arith, ints, h)

-- The text of a day names it.
pub day_text_named : (d : Day) → day_named (date_text d.number) ≡ Some d
day_text_named d =
    let at : Dated d.number = dated d in
    sym (is_named (Some d) (date_text d.number) (sym (day-text-read (date_text d.number) d.number
    (text_is_days (pos at.year) at.month at.day d.number
    (record { whole = at.year; year_is = refl; real = at.real; number_is = at.number_is })))))
