-- Tests that are turned.
use Rattle.std.proofs.Common.{◌≡◌, ◌↔◌, Bool, true, false, not, refl}
use Rattle.std.proofs.lemmas.Bool.{both_ways}

pub true-not : (b : Bool) → (not b ≡ true) ↔ (b ≡ false)
true-not true = (λ h. absurd (both_ways false refl h), λ e. absurd (both_ways true e refl))
true-not false = (λ _. refl, λ _. refl)
