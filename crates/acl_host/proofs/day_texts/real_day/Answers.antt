use Rattle.std.proofs.Common.{◌≡◌, ◌≢◌, ◌≤◌, ◌∙◌, ℕ, ℤ, pos, negsuc, ◌≤ℤ◌, to_z, w8, w16, w32, Some, refl, ap, arith}
use Rattle.std.proofs.lemmas.Int.{to_z-of_z, to_z_pos}
use Rattle.jiff_core.specs.Calendar.{IsDate, days_from_civil}
use Rattle.jiff_core.specs.Date.{epoch_day}
use Rattle.acl_host.specs.DaySteps.{real_day}
use Rattle.acl_host.proofs.Calendar.{real_answer, number_of_parts}
use Rattle.acl_host.proofs.day_texts.real_day.Goals as goal

-- what was asked for, as the calendar took it: signed numbers of 16 and 8 bits
record Taken (y m d : ℕ) (year : ℤ) (month day : ℕ) : Type 0 where
  year_is : year ≡ to_z w16 y
  month_is : pos month ≡ to_z w8 m
  day_is : pos day ≡ to_z w8 d
  real : IsDate (to_z w16 y) (to_z w8 m) (to_z w8 d)

record Answered (y m d : ℕ) (n : ℤ) : Type 0 where
  answer : Some n ≡ real_day y m d
  from_year_1 : negsuc 719161 ≤ℤ n

answered : (y m d : ℕ) (year : ℤ) (month day : ℕ) (n : ℤ) → y ≤ 9999 → m ≤ 99 → d ≤ 99 → y ≢ 0
    → n ≡ days_from_civil year month day → Taken y m d year month day → Answered y m d n
answered y m d year month day n hy hm hd ne number t =
    let ye : to_z w16 y ≡ pos y = to_z_pos w16 y (omega arith) in
    let me : to_z w8 m ≡ pos m = to_z_pos w8 m (omega arith) in
    let de : to_z w8 d ≡ pos d = to_z_pos w8 d (omega arith) in
    let real : IsDate (pos y) (pos m) (pos d) = rw (ye, me, de) at t.real in
    record {
      answer = real_answer y m d year month day n (t.year_is ∙ ye) (t.month_is ∙ me)
          (t.day_is ∙ de) number ne real;
      from_year_1 = number_of_parts y m d year month day n (t.year_is ∙ ye) (t.month_is ∙ me)
          (t.day_is ∙ de) number ne real;
    }

pub invariant_of-result-clause-from_year_1 : goal.invariant_of-result-clause-from_year_1
invariant_of-result-clause-from_year_1 c =
    let n = c.to_unix_epoch_day in
    let v = c.in-Ok.ensures.value in
    let a = answered c.args.year c.args.month c.args.day _ _ _ n.result c.requires.year
    c.requires.month c.requires.day c.if-year-eq0.false (n.ensures.value ∙ ap epoch_day c.to_plain.ensures)
    (record { year_is = v.0; month_is = v.1; day_is = v.2; real = c.in-Ok.ensures.succeeds.0 refl }) in
    rw (to_z-of_z w32 n.result (record { sfits = n.type_inv })) a.from_year_1

pub returns-in-Ok : goal.returns-in-Ok
returns-in-Ok c =
    let same = to_z-of_z w32 c.to_unix_epoch_day.result (record { sfits = c.to_unix_epoch_day.type_inv }) in
    let number = c.to_unix_epoch_day.ensures.value ∙ ap epoch_day c.to_plain.ensures in
    let v = c.in-Ok.ensures.value in
    let real = c.in-Ok.ensures.succeeds.0 refl in
    rw same (answered c.args.year c.args.month c.args.day _ _ _ _ c.requires.year c.requires.month
    c.requires.day c.if-year-eq0.false number
    (record { year_is = v.0; month_is = v.1; day_is = v.2; real = real })).answer
