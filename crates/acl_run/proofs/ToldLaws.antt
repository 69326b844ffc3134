-- What is so on the day of a run, and where a day is told.
use Rattle.std.proofs.Common.{◌≡◌, ℤ, Bool, true, false, not, List, Option, None, Some, IfSome, is_some, refl, sym, subst, ◌∙◌}
use Rattle.acl_host.specs.declared.days.Day.{Day}
use Rattle.acl_host.proofs.NamedDayLaws.{same-day}
use Rattle.acl_host.specs.Files.{File}
use Rattle.acl_run.specs.Deciding.{IsDayFor}
use Rattle.acl_run.specs.Told.{OnDay, WhereDay, or_day}
use Rattle.acl_run.specs.Worlds.{Watch}

day-goes-on : (asked : Bool) (told : Option ℤ) (P Q : Day → Type 0) → ((day : Day) → P day → Q day) → OnDay asked told P → OnDay asked told Q
day-goes-on true None P Q f h = (h.0, f h.0 h.1)
day-goes-on true (Some n) P Q f h = λ day e. f day (h day e)
day-goes-on false told P Q f h = λ day. f day (h day)

-- What is so on the day of the run is so where a day is told.
day-told : (asked : Bool) (told : Option ℤ) (P : Day → Type 0) → OnDay asked told P → WhereDay asked told P
day-told true None P h = tt
day-told true (Some n) P h = h
day-told false told P h = h

day-given : (asked : Bool) (told : Option ℤ) (Q : Day → Type 0) → ((day : Day) → Q day) → WhereDay asked told Q
day-given true None Q f = tt
day-given true (Some n) Q f = λ day e. f day
day-given false told Q f = f

pub told-goes-on : (asked : Bool) (c : Watch) (told : Option (List File)) (P Q : Day → List File → Type 0)
    → ((day : Day) (files : List File) → told ≡ Some files → P day files → Q day files)
    → IfSome told (λ files. OnDay asked c.day (λ day. P day files)) → IfSome told (λ files. OnDay asked c.day (λ day. Q day files))
told-goes-on asked c None P Q f h = tt
told-goes-on asked c (Some files) P Q f h = day-goes-on asked c.day (λ day. P day files) (λ day. Q day files) (λ day. f day files refl) h

pub where-told : (asked : Bool) (c : Watch) (told : Option (List File)) (P : Day → List File → Type 0)
    → IfSome told (λ files. OnDay asked c.day (λ day. P day files)) → IfSome told (λ files. WhereDay asked c.day (λ day. P day files))
where-told asked c None P h = tt
where-told asked c (Some files) P h = day-told asked c.day (λ day. P day files) h

pub told-given : (asked : Bool) (c : Watch) (told : Option (List File)) (Q : Day → List File → Type 0)
    → ((day : Day) (files : List File) → told ≡ Some files → Q day files) → IfSome told (λ files. WhereDay asked c.day (λ day. Q day files))
told-given asked c None Q f = tt
told-given asked c (Some files) Q f = day-given asked c.day (λ day. Q day files) (λ day. f day files refl)

-- ---- the day that is named or asked for

-- The day of the words, else the clock's, is the one for which the work is made.
day-is : (date : Option Day) (told : Option ℤ) (today : Day) → IsDayFor date told today → OnDay (not (is_some date)) told (λ day. or_day date day ≡ today)
day-is (Some date) told today h = λ day. sym h
day-is None None today h = (today, refl)
day-is None (Some n) today h = λ day e. same-day day today (e ∙ sym h)

-- What is so of the files for that day is so where the files and the clock's day are told.
pub for-day : (told : Option (List File)) (date : Option Day) (asked : Bool) (c : Watch) (today : Day) (R : List File → Type 0) (Q : Day → List File → Type 0)
    → not (is_some date) ≡ asked → IsDayFor date c.day today → ((day : Day) (files : List File) → or_day date day ≡ today → R files → Q day files)
    → IfSome told R → IfSome told (λ files. OnDay asked c.day (λ day. Q day files))
for-day None date asked c today R Q e d f h = tt
for-day (Some files) date asked c today R Q e d f h =
    subst (λ b. OnDay b c.day (λ day. Q day files)) e
    (day-goes-on (not (is_some date)) c.day (λ day. or_day date day ≡ today) (λ day. Q day files) (λ day is. f day files is h) (day-is date c.day today d))
