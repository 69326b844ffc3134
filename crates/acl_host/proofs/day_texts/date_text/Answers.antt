use Rattle.std.proofs.Common.{◌≡◌, ◌∙◌, ℕ, ℤ, pos, to_z, of_z, w16, w32, w64, arith}
use Rattle.jiff_core.specs.declared.civil.date.Date.{Date}
use Rattle.jiff_core.specs.Calendar.{days_from_civil}
use Rattle.acl_host.specs.declared.days.Day.{Day}
use Rattle.acl_host.proofs.Calendar.{IsDayOf, day_of_date, year_cast, text_of_day, text_is_days}
use Rattle.acl_host.proofs.day_texts.date_text.Goals as goal

-- the date that has the day's number
date-of : (date : Date) (day : Day) (wide : ℤ)
    → days_from_civil date.year date.month date.day ≡ to_z w64 (of_z w64 wide)
    → wide ≡ to_z w32 (of_z w32 day.number) → IsDayOf date.year date.month date.day day.number
date-of date day wide e w =
    day_of_date date.year date.month date.day day.number wide
    (date.year_in, date.month_in, date.day_in) e w day.from_year_1 day.to_year_9999

year-of : (year : ℤ) (month day : ℕ) (number : ℤ) (r : IsDayOf year month day number)
    → to_z w16 (of_z w16 year) ≡ pos r.whole
year-of year month day number r = year_cast year r.whole r.year_is r.real.year_to

pub overflow_cast-date : goal.overflow_cast-date
overflow_cast-date c =
    let r = date-of c.in-Ok.date c.args.day c.from.result c.in-Ok.ensures.value c.from.ensures in
    rw (year-of _ _ _ _ r) (tt, record { fits = omega (arith, r.real.year_to) })

pub returns-clause-text : goal.returns-clause-text
returns-clause-text c =
    let r = date-of c.in-Ok.date c.args.day c.from.result c.in-Ok.ensures.value c.from.ensures in
    let text = rw (year-of _ _ _ _ r) at c.full_date.ensures in
    text ∙ text_of_day _ _ _ _ r

pub returns-clause-real : goal.returns-clause-real
returns-clause-real c =
    text_is_days _ _ _ _
    (date-of c.in-Ok.date c.args.day c.from.result c.in-Ok.ensures.value c.from.ensures)
