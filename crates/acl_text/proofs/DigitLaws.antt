-- The bytes of a number's word are digits.
use Rattle.std.proofs.Common.{◌≡◌, ℕ, ◌^◌, ◌<◌, true, false, List, [], ◌∷◌, decimal, refl}
use Rattle.std.specs.Str.{all_ascii_digits}
use Rattle.std.specs.Char.{is_ascii_digit}
use Rattle.std.specs.List.{list_all}
use Rattle.std.proofs.lemmas.Bool.{and_parts, and_from}
use Rattle.acl_packet.specs.Decimals.{IsNumber}
use Rattle.acl_packet.proofs.DecimalLaws.{decimal-number}
use Rattle.acl_text.specs.Cuts.{has_byte}
use Rattle.acl_text.proofs.CutLaws.{has-not}

pub digits-lack : (c : ℕ) (bs : List ℕ) → all_ascii_digits bs ≡ true → is_ascii_digit c ≡ false → has_byte c bs ≡ false
digits-lack c bs h n = has-not is_ascii_digit c bs (all-digits bs h) n
  where
    all-digits : (bs : List ℕ) → all_ascii_digits bs ≡ true → list_all is_ascii_digit bs ≡ true
    all-digits [] h = refl
    all-digits (b ∷ bs) h =
        let p = and_parts (is_ascii_digit b) (all_ascii_digits bs) h in
        and_from (is_ascii_digit b) (list_all is_ascii_digit bs) p.0 (all-digits bs p.1)

pub number-lacks : (c : ℕ) (bs : List ℕ) (n : ℕ) → IsNumber bs n → is_ascii_digit c ≡ false → has_byte c bs ≡ false
number-lacks c bs n h d = digits-lack c bs h.digits d

-- a decimal text has digits alone, so no space and no line feed
pub decimal-lacks : (c n : ℕ) → n < 2 ^ 128 → is_ascii_digit c ≡ false → has_byte c (decimal n) ≡ false
decimal-lacks c n fits d = digits-lack c (decimal n) (decimal-number n fits).digits d
