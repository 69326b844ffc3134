-- Names that are a letter and a number.
use Rattle.std.proofs.Common.{◌≡◌, ℕ, ◌<◌, Bool, true, false, List, ◌++◌, decimal, refl, arith}
use Rattle.std.specs.Str.{bytes_eq}
use Rattle.std.proofs.lemmas.Fmt.{decimal_injective}
use Rattle.std.proofs.lemmas.List.{append_cancel_left}
use Rattle.acl_text.proofs.OptionStepLaws.{same_bytes}

-- names of two numbers differ
pub other_name : (letter : List ℕ) (i k : ℕ) → i < 1024 → k < 1024 → (i ≡ k → ⊥) → bytes_eq (letter ++ decimal i) (letter ++ decimal k) ≡ false
other_name letter i k small few differ = by_test (bytes_eq (letter ++ decimal i) (letter ++ decimal k)) refl
  where
    by_test : (t : Bool) → bytes_eq (letter ++ decimal i) (letter ++ decimal k) ≡ t → t ≡ false
    by_test false e = refl
    by_test true e = absurd (differ (decimal_injective i k (omega (arith, small)) (omega (arith, few))
        (append_cancel_left letter (decimal i) (decimal k) (same_bytes (letter ++ decimal i) (letter ++ decimal k) e))))
