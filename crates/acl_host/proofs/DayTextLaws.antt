-- Texts of days: a text is that of one day at most, and a day has one text.
use Rattle.std.proofs.Common.{◌≡◌, ℕ, ◌+◌, ◌-◌, ◌*◌, ◌/◌, ◌%◌, ◌<◌, ◌≤◌, ◌==◌, ◌&&◌, nat_le, ℤ, pos, List, [], ◌∷◌, length, get_or, Option, None, Some, IfSome, IfNone, option_map, refl, ap, sym, ◌∙◌, arith}
use Rattle.std.proofs.lemmas.Bool.{and_parts, leb-true, eqb-true}
use Rattle.std.proofs.lemmas.Int.{ints}
use Rattle.std.proofs.lemmas.Option.{none-some, same_Some}
use Rattle.std.specs.Char.{is_ascii_digit}
use Rattle.jiff_core.specs.Calendar.{days_in_month, days_from_civil}
use Rattle.acl_packet.proofs.ChoiceLaws.{guarded}
use Rattle.acl_text.proofs.OptionStepLaws.{bound}
use Rattle.acl_host.specs.Days.{IsDayText, full_date}
use Rattle.acl_host.specs.DaySteps.{two_in, is_real, real_day, digits_day, has_dashes, day_in, date_text}
use Rattle.acl_host.specs.declared.days.Day.{Day}
use Rattle.acl_host.proofs.Calendar.{IsRealDate, civil, real_is_read, text_of_real}

real-of : (word : List ℕ) (n : ℤ) (d : IsDayText word n) → IsRealDate d.year d.month d.day
real-of word n d = record {
  year_from = d.from_year_1;
  year_to = omega (arith, ints, d.real.0.1);
  month_from = d.real.1.0;
  month_to = d.real.1.1;
  day_from = d.real.2.0;
  day_to = d.real.2.1;
}

-- the text of a day is read as that day, and is the text that is put
pub day-text-read : (word : List ℕ) (n : ℤ) → IsDayText word n → day_in word ≡ Some n
day-text-read word n d =
    ap day_in d.text_is ∙ real_is_read d.year d.month d.day (real-of word n d)
    ∙ ap (λ (z : ℤ). Some z) (sym d.number_is)

pub day-text-put : (word : List ℕ) (n : ℤ) → IsDayText word n → word ≡ date_text n
day-text-put word n d =
    d.text_is ∙ sym (text_of_real d.year d.month d.day (real-of word n d))
    ∙ ap date_text (sym d.number_is)

record AreTwo (a b n : ℕ) : Type 0 where
  tens : a ≡ 48 + n / 10
  ones : b ≡ 48 + n % 10
  small : n < 100

two-found : (a b n : ℕ) → two_in a b ≡ Some n → AreTwo a b n
two-found a b n e =
    let p = guarded (is_ascii_digit a && is_ascii_digit b) (Some ((a - 48) * 10 + (b - 48))) n e in
    let digits = and_parts (is_ascii_digit a) (is_ascii_digit b) p.0 in
    let x = and_parts (nat_le 48 a) (nat_le a 57) digits.0 in
    let y = and_parts (nat_le 48 b) (nat_le b 57) digits.1 in
    let value : (a - 48) * 10 + (b - 48) ≡ n = same_Some _ n p.1 in
    let a_from : 48 ≤ a = leb-true 48 a x.0 in
    let a_to : a ≤ 57 = leb-true a 57 x.1 in
    let b_from : 48 ≤ b = leb-true 48 b y.0 in
    let b_to : b ≤ 57 = leb-true b 57 y.1 in
    record { tens = omega arith; ones = omega arith; small = omega arith }

record IsRealDay (y m d : ℕ) (n : ℤ) : Type 0 where
  real : IsRealDate y m d
  number : n ≡ days_from_civil (pos y) m d

real-found : (y m d : ℕ) (n : ℤ) → y ≤ 9999 → real_day y m d ≡ Some n → IsRealDay y m d n
real-found y m d n h e =
    let p = guarded (is_real y m d) (Some (days_from_civil (pos y) m d)) n e in
    let last = days_in_month (pos y) m in
    let parts = and_parts (nat_le 1 y && (nat_le 1 m && nat_le m 12))
    (nat_le 1 d && nat_le d last) p.0 in
    let front = and_parts (nat_le 1 y) (nat_le 1 m && nat_le m 12) parts.0 in
    let month = and_parts (nat_le 1 m) (nat_le m 12) front.1 in
    let day = and_parts (nat_le 1 d) (nat_le d last) parts.1 in
    record {
      real = record {
        year_from = leb-true 1 y front.0;
        year_to = h;
        month_from = leb-true 1 m month.0;
        month_to = leb-true m 12 month.1;
        day_from = leb-true 1 d day.0;
        day_to = leb-true d last day.1;
      };
      number = sym (same_Some _ n p.1);
    }

-- two digits each of the century, the year in it, the month and the day, with dashes between
dated : (c0 c1 y0 y1 s m0 m1 t d0 d1 c y m d : ℕ) → AreTwo c0 c1 c → AreTwo y0 y1 y → AreTwo m0 m1 m
    → AreTwo d0 d1 d → s ≡ 45 → t ≡ 45
    → c0 ∷ c1 ∷ y0 ∷ y1 ∷ s ∷ m0 ∷ m1 ∷ t ∷ d0 ∷ d1 ∷ [] ≡ full_date (c * 100 + y) m d
dated c0 c1 y0 y1 s m0 m1 t d0 d1 c y m d two_c two_y two_m two_d first second =
    let front : (c * 100 + y) / 100 ≡ c = omega (arith, two_y.small) in
    let rest : (c * 100 + y) % 100 ≡ y = omega (arith, two_y.small) in
    rw (
      first,
      second,
      front,
      rest,
      two_c.tens,
      two_c.ones,
      two_y.tens,
      two_y.ones,
      two_m.tens,
      two_m.ones,
      two_d.tens,
      two_d.ones,
    ) refl

ten-found : (c0 c1 y0 y1 s m0 m1 t d0 d1 : ℕ) (n : ℤ) → s ≡ 45 → t ≡ 45
    → digits_day (c0 ∷ c1 ∷ y0 ∷ y1 ∷ s ∷ m0 ∷ m1 ∷ t ∷ d0 ∷ d1 ∷ []) ≡ Some n
    → IsDayText (c0 ∷ c1 ∷ y0 ∷ y1 ∷ s ∷ m0 ∷ m1 ∷ t ∷ d0 ∷ d1 ∷ []) n
unfolding digits_day
ten-found c0 c1 y0 y1 s m0 m1 t d0 d1 n first second e =
    let century = bound (two_in c0 c1) _ n e in
    let year = bound (two_in y0 y1) _ n century.2 in
    let month = bound (two_in m0 m1) _ n year.2 in
    let day = bound (two_in d0 d1) _ n month.2 in
    let two_c = two-found c0 c1 century.0 century.1 in
    let two_y = two-found y0 y1 year.0 year.1 in
    let two_m = two-found m0 m1 month.0 month.1 in
    let two_d = two-found d0 d1 day.0 day.1 in
    let whole = century.0 * 100 + year.0 in
    let four : whole ≤ 9999 = omega (arith, two_c.small, two_y.small) in
    let found = real-found whole month.0 day.0 n four day.2 in
    record {
      year = whole;
      month = month.0;
      day = day.0;
      from_year_1 = found.real.year_from;
      real = civil whole month.0 day.0 found.real;
      text_is = dated c0 c1 y0 y1 s m0 m1 t d0 d1 century.0 year.0 month.0 day.0 two_c two_y two_m
          two_d first second;
      number_is = found.number;
    }

-- ten bytes that are read as a day
ten-bytes : (word : List ℕ) (n : ℤ) → length word ≡ 10 → get_or word 4 0 ≡ 45 → get_or word 7 0 ≡ 45
    → digits_day word ≡ Some n → IsDayText word n
ten-bytes [] n l s t e = absurd (omega arith)
ten-bytes (a ∷ []) n l s t e = absurd (omega arith)
ten-bytes (a ∷ b ∷ []) n l s t e = absurd (omega arith)
ten-bytes (a ∷ b ∷ c ∷ []) n l s t e = absurd (omega arith)
ten-bytes (a ∷ b ∷ c ∷ d ∷ []) n l s t e = absurd (omega arith)
ten-bytes (a ∷ b ∷ c ∷ d ∷ f ∷ []) n l s t e = absurd (omega arith)
ten-bytes (a ∷ b ∷ c ∷ d ∷ f ∷ g ∷ []) n l s t e = absurd (omega arith)
ten-bytes (a ∷ b ∷ c ∷ d ∷ f ∷ g ∷ h ∷ []) n l s t e = absurd (omega arith)
ten-bytes (a ∷ b ∷ c ∷ d ∷ f ∷ g ∷ h ∷ i ∷ []) n l s t e = absurd (omega arith)
ten-bytes (a ∷ b ∷ c ∷ d ∷ f ∷ g ∷ h ∷ i ∷ j ∷ []) n l s t e = absurd (omega arith)
ten-bytes (a ∷ b ∷ c ∷ d ∷ f ∷ g ∷ h ∷ i ∷ j ∷ k ∷ []) n l s t e =
    ten-found a b c d f g h i j k n s t e
ten-bytes (a ∷ b ∷ c ∷ d ∷ f ∷ g ∷ h ∷ i ∷ j ∷ k ∷ m ∷ more) n l s t e = absurd (omega arith)

-- a word that is read as a day is that day's text
pub day-text-found : (word : List ℕ) (n : ℤ) → day_in word ≡ Some n → IsDayText word n
unfolding day_in
day-text-found word n e =
    let p = guarded (has_dashes word) (digits_day word) n e in
    let parts = and_parts (length word == 10 && get_or word 4 0 == 45)
    (get_or word 7 0 == 45) p.0 in
    let front = and_parts (length word == 10) (get_or word 4 0 == 45) parts.0 in
    ten-bytes word n (eqb-true (length word) 10 front.0) (eqb-true (get_or word 4 0) 45 front.1)
    (eqb-true (get_or word 7 0) 45 parts.1) p.1

-- both ways, over what a reader gives
pub day-some : (word : List ℕ) (r : Option Day) → option_map (λ (d : Day). d.number) r ≡ day_in word
    → IfSome r (λ day. IsDayText word day.number)
day-some word None e = tt
day-some word (Some day) e = day-text-found word day.number (sym e)

pub day-none : (word : List ℕ) (r : Option Day) → option_map (λ (d : Day). d.number) r ≡ day_in word
    → IfNone r ((n : ℤ) → IsDayText word n → ⊥)
day-none word None e = λ n d. none-some n (e ∙ day-text-read word n d)
day-none word (Some day) e = tt
