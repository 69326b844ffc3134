-- The day that a word names.
use Rattle.std.specs.Prelude.{ℕ, ℤ, pos, negsuc, ◌≤ℤ◌, Bool, true, T, List, Option, None, Some, option_and_then}
use Rattle.std.specs.Int.Signed.{le_z, le_z_yes}
use Rattle.acl_host.specs.declared.days.Day.{Day}
use Rattle.acl_host.specs.DaySteps.{day_in}

-- A day is a number with the facts that it lies in the years 0001 to 9999.
abbrev pub day_if : (n : ℤ) (b c : Bool) → (T b → negsuc 719161 ≤ℤ n)
    → (T c → n ≤ℤ pos 2932896) → Option Day
day_if n true true from to =
    Some (record { number = n; from_year_1 = from tt; to_year_9999 = to tt })
day_if n _ _ from to = None

abbrev pub day_at : ℤ → Option Day
day_at n =
    day_if n (le_z (negsuc 719161) n) (le_z n (pos 2932896)) (λ t. le_z_yes t) (λ t. le_z_yes t)

unfoldable pub day_named : List ℕ → Option Day
day_named bs = option_and_then day_at (day_in bs)
