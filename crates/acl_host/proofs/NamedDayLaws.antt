-- A day is found again by its number.
use Rattle.std.proofs.Common.{◌≡◌, ℕ, ℤ, pos, negsuc, Bool, true, false, List, Option, None, Some, option_map, option_and_then, refl, ap, sym, ◌∙◌}
use Rattle.std.specs.Prelude.{◌≤ℤ◌, T}
use Rattle.std.specs.Int.Signed.{le_z, le_z_yes}
use Rattle.std.proofs.Math.Dec.{T_prop}
use Rattle.std.proofs.lemmas.Option.{same_Some}
use Rattle.acl_host.specs.declared.days.Day.{Day}
use Rattle.acl_host.specs.DaySteps.{day_in}
use Rattle.acl_host.specs.NamedDays.{day_if, day_at, day_named}

one_proof : (a b : ℤ) (p q : a ≤ℤ b) → p ≡ q
one_proof a b p q = let prop : IsProp (a ≤ℤ b) = hlevel (T_prop) in prop p q

found_if : (d : Day) (b c : Bool) (from : T b → negsuc 719161 ≤ℤ d.number) (to : T c → d.number ≤ℤ pos 2932896) → T b → T c → day_if d.number b c from to ≡ Some d
found_if d true true from to s t =
    ap (λ p. Some (record { number = d.number; from_year_1 = p; to_year_9999 = to tt })) (one_proof (negsuc 719161) d.number (from tt) d.from_year_1)
    ∙ ap (λ q. Some (record { number = d.number; from_year_1 = d.from_year_1; to_year_9999 = q })) (one_proof d.number (pos 2932896) (to tt) d.to_year_9999)
found_if d true false from to s t = absurd t
found_if d false c from to s t = absurd s

found : (d : Day) → day_at d.number ≡ Some d
found d = found_if d (le_z (negsuc 719161) d.number) (le_z d.number (pos 2932896)) (λ t. le_z_yes t) (λ t. le_z_yes t) d.from_year_1.le d.to_year_9999.le

found_in : (r : Option Day) → option_and_then day_at (option_map (λ (d : Day). d.number) r) ≡ r
found_in None = refl
found_in (Some d) = found d

pub is_named : (r : Option Day) (bs : List ℕ) → option_map (λ (d : Day). d.number) r ≡ day_in bs → r ≡ day_named bs
unfolding day_named
is_named r bs e = sym (found_in r) ∙ ap (λ x. option_and_then day_at x) e

-- Two days of one number are the same.
pub same-day : (a b : Day) → a.number ≡ b.number → a ≡ b
same-day a b e = same_Some a b (sym (found a) ∙ ap day_at e ∙ found b)
