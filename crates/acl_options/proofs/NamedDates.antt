-- A word names a day exactly where it is the day's text.
use Rattle.std.proofs.Common.{◌≡◌, ℕ, ℤ, pos, negsuc, Bool, true, false, List, Some, ap, subst, sym}
use Rattle.std.specs.Prelude.{◌≤ℤ◌, T}
use Rattle.std.specs.Int.Signed.{le_z, le_z_yes}
use Rattle.std.proofs.lemmas.Option.{none-some, option_and_then_some, same_Some}
use Rattle.acl_host.specs.Days.{IsDayText}
use Rattle.acl_host.specs.declared.days.Day.{Day}
use Rattle.acl_host.specs.DaySteps.{day_in}
use Rattle.acl_host.specs.NamedDays.{day_if, day_at, day_named}
use Rattle.acl_host.proofs.DayTextLaws.{day-text-found, day-text-read}
use Rattle.acl_host.proofs.NamedDayLaws.{is_named}

number-if : (n : ℤ) (b c : Bool) (from : T b → negsuc 719161 ≤ℤ n) (to : T c → n ≤ℤ pos 2932896) (d : Day) → day_if n b c from to ≡ Some d → n ≡ d.number
number-if n true true from to d e = ap (λ (x : Day). x.number) (same_Some _ d e)
number-if n true false from to d e = absurd (none-some d e)
number-if n false c from to d e = absurd (none-some d e)

number-at : (n : ℤ) (d : Day) → day_at n ≡ Some d → n ≡ d.number
number-at n d e = number-if n (le_z (negsuc 719161) n) (le_z n (pos 2932896)) (λ t. le_z_yes t) (λ t. le_z_yes t) d e

pub named-text : (bs : List ℕ) (d : Day) → day_named bs ≡ Some d → IsDayText bs d.number
unfolding day_named
named-text bs d e = option_and_then_some day_at (day_in bs) d e (λ n is at. subst (IsDayText bs) (number-at n d at) (day-text-found bs n is))

pub text-named : (bs : List ℕ) (d : Day) → IsDayText bs d.number → day_named bs ≡ Some d
text-named bs d text = sym (is_named (Some d) bs (sym (day-text-read bs d.number text)))
