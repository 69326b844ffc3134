-- Words of whole numbers: what is read is the word's number, and a number's word is read.
use Rattle.std.proofs.Common.{◌≡◌, ◌≢◌, ℕ, ◌+◌, ◌-◌, ◌≤◌, ◌==◌, true, false, ℤ, pos, negsuc, List, [], ◌∷◌, Option, None, Some, IfSome, IfNone, option_map, option_and_then, inl, inr, ap, sym, subst, ◌∙◌, arith}
use Rattle.std.specs.Str.{all_ascii_digits}
use Rattle.std.specs.Char.{is_ascii_digit}
use Rattle.std.proofs.lemmas.Bool.{and_parts, cond-false, eqb-true, eq-eqb, false≢true, ne_eqb}
use Rattle.std.proofs.lemmas.Bool.Decides.{nat_tests}
use Rattle.std.proofs.lemmas.Option.{none-some, same_Some}
use Rattle.acl_packet.specs.Decimals.{IsNumber, number_in}
use Rattle.acl_packet.proofs.ChoiceLaws.{chosen, refused}
use Rattle.acl_packet.proofs.DecimalLaws.{number-in, number-is}
use Rattle.acl_text.specs.SignedNumbers.{IsSignedWord, negative, below_zero_in, from_zero_in, signed_in}
use Rattle.acl_text.proofs.OptionStepLaws.{bound, mapped}

below-found : (below above b : ℕ) (bs : List ℕ) (z : ℤ) → b ≡ 45 → below_zero_in below bs ≡ Some z → IsSignedWord below above (b ∷ bs) z
below-found below above b bs z h e =
    let p = bound (number_in below bs) negative z e in
    let n = p.0 in
    let q = refused (n == 0) (Some (negsuc (n - 1))) z p.2 in
    let read = number-is below n bs p.1 in
    let some : n ≢ 0 = λ k. false≢true (sym q.0 ∙ eq-eqb n 0 k) in
    let same : n ≡ n - 1 + 1 = omega (arith, some) in
    let P : ℤ → Type 0 = λ y. IsSignedWord below above (b ∷ bs) y in
    let N : ℕ → Type 0 = λ k. IsNumber bs k × (k ≤ below) in
    let parts = subst N same read in
    subst P (same_Some (negsuc (n - 1)) z q.1) (bs, ap (λ c. c ∷ bs) h, parts.0, parts.1)

from-found : (below above : ℕ) (word : List ℕ) (z : ℤ) → from_zero_in above word ≡ Some z → IsSignedWord below above word z
from-found below above word z e =
    let p = mapped (λ n. pos n) (number_in above word) z e in
    let P : ℤ → Type 0 = λ y. IsSignedWord below above word y in
    subst P p.2 (number-is above p.0 word p.1)

signed-found : (below above : ℕ) (word : List ℕ) (z : ℤ) → signed_in below above word ≡ Some z → IsSignedWord below above word z
signed-found below above [] z e = absurd (none-some z e)
signed-found below above (b ∷ bs) z e = elim (chosen (b == 45) (below_zero_in below bs) (from_zero_in above (b ∷ bs)) (Some z) e) [
  | inl h ↦ below-found below above b bs z (eqb-true b 45 h.0) h.1
  | inr h ↦ from-found below above (b ∷ bs) z h.1
]

-- a digit is no `-`
no_dash : (b : ℕ) → is_ascii_digit b ≡ true → (b == 45) ≡ false
no_dash b h = grind (arith, nat_tests)

negative-one : (n : ℕ) → negative (n + 1) ≡ Some (negsuc n)
negative-one n =
    let same : n + 1 - 1 ≡ n = omega arith in
    cond-false (n + 1 == 0) None (Some (negsuc (n + 1 - 1))) (ne_eqb (n + 1) 0 (λ e. absurd (omega arith))) ∙ ap (λ k. Some (negsuc k)) same

pub signed-again : (below above : ℕ) (word : List ℕ) (z : ℤ) → IsSignedWord below above word z → signed_in below above word ≡ Some z
signed-again below above [] (pos n) h = absurd (omega (arith, h.0.nonempty))
signed-again below above (b ∷ bs) (pos n) h =
    let digit = (and_parts (is_ascii_digit b) (all_ascii_digits bs) h.0.digits).0 in
    cond-false (b == 45) (below_zero_in below bs) (from_zero_in above (b ∷ bs)) (no_dash b digit)
    ∙ ap (option_map (λ n. pos n)) (number-in above n (b ∷ bs) h.0 h.1)
signed-again below above word (negsuc n) h =
    ap (signed_in below above) h.1 ∙ ap (option_and_then negative) (number-in below (n + 1) h.0 h.2 h.3) ∙ negative-one n

pub signed_some : (below above : ℕ) (word : List ℕ) (o : Option ℤ) → o ≡ signed_in below above word → IfSome o (λ z. IsSignedWord below above word z)
signed_some below above word None e = tt
signed_some below above word (Some z) e = signed-found below above word z (sym e)

pub signed_none : (below above : ℕ) (word : List ℕ) (o : Option ℤ) → o ≡ signed_in below above word → IfNone o ((z : ℤ) → IsSignedWord below above word z → ⊥)
signed_none below above word None e = λ z h. none-some z (e ∙ signed-again below above word z h)
signed_none below above word (Some z) e = tt
