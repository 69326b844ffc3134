-- IPv4 addresses as text: what is read is an address's text, and an address's text is read.
use Rattle.std.proofs.Common.{◌≡◌, ℕ, ◌/◌, ◌%◌, ◌^◌, ◌<◌, ◌≤◌, false, ◌==◌, List, ◌∷◌, ◌++◌, length, Some, decimal, refl, ap, sym, ◌∙◌, arith}
use Rattle.std.specs.Char.{is_ascii_digit}
use Rattle.std.proofs.lemmas.Bool.{or_from}
use Rattle.std.proofs.lemmas.List.{length-append}
use Rattle.std.proofs.lemmas.Option.{same_Some}
use Rattle.acl_text.specs.Cuts.{cut_at, has_byte}
use Rattle.acl_packet.specs.Decimals.{number_in}
use Rattle.acl_text.specs.Ipv4.{IsByte, IsIpv4, ipv4_in, ipv4_text}
use Rattle.acl_text.proofs.OptionStepLaws.{bound, bound_on}
use Rattle.acl_text.proofs.CutLaws.{cut-found, cut-again, has-append}
use Rattle.acl_packet.proofs.DecimalLaws.{number-is, number-in, number-text, decimal-number, decimal-short}
use Rattle.acl_text.proofs.DigitLaws.{number-lacks}

-- four texts with `.` between
dotted : List ℕ → List ℕ → List ℕ → List ℕ → List ℕ
dotted w x y z = w ++ 46 ∷ (x ++ 46 ∷ (y ++ 46 ∷ z))

byte-found : (bs : List ℕ) (n : ℕ) → number_in 255 bs ≡ Some n → IsByte bs n
byte-found bs n e = let p = number-is 255 n bs e in record { number = p.0; small = p.1 }

pub ipv4-is : (bs : List ℕ) (n : ℕ) → ipv4_in bs ≡ Some n → IsIpv4 bs n
unfolding ipv4_in
ipv4-is bs n e =
    let p = bound (cut_at 46 bs) _ n e in
    let q = bound (cut_at 46 p.0.1) _ n p.2 in
    let r = bound (cut_at 46 q.0.1) _ n q.2 in
    let a = bound (number_in 255 p.0.0) _ n r.2 in
    let b = bound (number_in 255 q.0.0) _ n a.2 in
    let c = bound (number_in 255 r.0.0) _ n b.2 in
    let d = bound (number_in 255 r.0.1) _ n c.2 in
    let one = cut-found 46 bs p.0.0 p.0.1 p.1 in
    let two = cut-found 46 p.0.1 q.0.0 q.0.1 q.1 in
    let three = cut-found 46 q.0.1 r.0.0 r.0.1 r.1 in
    record {
      first = p.0.0;
      second = q.0.0;
      third = r.0.0;
      fourth = r.0.1;
      text = one.0 ∙ ap (λ t. p.0.0 ++ 46 ∷ t) (two.0 ∙ ap (λ t. q.0.0 ++ 46 ∷ t) three.0);
      a = a.0;
      b = b.0;
      c = c.0;
      d = d.0;
      first_is = byte-found p.0.0 a.0 a.1;
      second_is = byte-found q.0.0 b.0 b.1;
      third_is = byte-found r.0.0 c.0 c.1;
      fourth_is = byte-found r.0.1 d.0 d.1;
      value = sym (same_Some _ n d.2);
    }

byte-in : (bs : List ℕ) (n : ℕ) → IsByte bs n → number_in 255 bs ≡ Some n
byte-in bs n h = number-in 255 n bs h.number h.small

byte-lacks : (c : ℕ) (bs : List ℕ) (n : ℕ) → IsByte bs n → is_ascii_digit c ≡ false → has_byte c bs ≡ false
byte-lacks c bs n h d = number-lacks c bs n h.number d

pub ipv4-in : (bs : List ℕ) (n : ℕ) → IsIpv4 bs n → ipv4_in bs ≡ Some n
unfolding ipv4_in
ipv4-in bs n h =
    let w = h.first in
    let x = h.second in
    let y = h.third in
    let z = h.fourth in
    ap ipv4_in h.text
    ∙ bound_on _ (w, x ++ 46 ∷ (y ++ 46 ∷ z)) _ n (cut-again 46 w (x ++ 46 ∷ (y ++ 46 ∷ z)) (byte-lacks 46 w h.a h.first_is refl))
    (bound_on _ (x, y ++ 46 ∷ z) _ n (cut-again 46 x (y ++ 46 ∷ z) (byte-lacks 46 x h.b h.second_is refl))
    (bound_on _ (y, z) _ n (cut-again 46 y z (byte-lacks 46 y h.c h.third_is refl))
    (bound_on _ h.a _ n (byte-in w h.a h.first_is)
    (bound_on _ h.b _ n (byte-in x h.b h.second_is)
    (bound_on _ h.c _ n (byte-in y h.c h.third_is)
    (bound_on _ h.d _ n (byte-in z h.d h.fourth_is) (ap Some (sym h.value))))))))

pub ipv4-small : (bs : List ℕ) (n : ℕ) → IsIpv4 bs n → n < 2 ^ 32
ipv4-small bs n h = omega (arith, h.value, h.first_is.small, h.second_is.small, h.third_is.small, h.fourth_is.small)

-- an address has one text
pub ipv4-text : (bs : List ℕ) (n : ℕ) → IsIpv4 bs n → bs ≡ ipv4_text n
unfolding ipv4_text
ipv4-text bs n h =
    let p : h.a ≡ n / 2 ^ 24 = omega (arith, h.value, h.first_is.small, h.second_is.small, h.third_is.small, h.fourth_is.small) in
    let q : h.b ≡ n / 2 ^ 16 % 256 = omega (arith, h.value, h.first_is.small, h.second_is.small, h.third_is.small, h.fourth_is.small) in
    let r : h.c ≡ n / 2 ^ 8 % 256 = omega (arith, h.value, h.first_is.small, h.second_is.small, h.third_is.small, h.fourth_is.small) in
    let s : h.d ≡ n % 256 = omega (arith, h.value, h.first_is.small, h.second_is.small, h.third_is.small, h.fourth_is.small) in
    let part : (w : List ℕ) (a m : ℕ) → IsByte w a → a ≡ m → w ≡ decimal m = λ w a m b e. number-text w a b.number (omega (arith, b.small)) ∙ ap decimal e in
    h.text ∙ same-dotted h.first (decimal (n / 2 ^ 24)) h.second (decimal (n / 2 ^ 16 % 256)) h.third (decimal (n / 2 ^ 8 % 256)) h.fourth (decimal (n % 256))
    (part h.first h.a _ h.first_is p) (part h.second h.b _ h.second_is q) (part h.third h.c _ h.third_is r) (part h.fourth h.d _ h.fourth_is s)
  where
    same-dotted : (w w' x x' y y' z z' : List ℕ) → w ≡ w' → x ≡ x' → y ≡ y' → z ≡ z'
        → w ++ 46 ∷ (x ++ 46 ∷ (y ++ 46 ∷ z)) ≡ w' ++ 46 ∷ (x' ++ 46 ∷ (y' ++ 46 ∷ z'))
    same-dotted w w' x x' y y' z z' a b c d = cc

byte-is : (n : ℕ) → n < 256 → IsByte (decimal n) n
byte-is n h = record { number = decimal-number n (omega arith); small = omega arith }

-- the text that is printed is the address's
pub ipv4-printed : (n : ℕ) → n < 2 ^ 32 → IsIpv4 (ipv4_text n) n
unfolding ipv4_text
ipv4-printed n h = record {
  first = decimal (n / 2 ^ 24);
  second = decimal (n / 2 ^ 16 % 256);
  third = decimal (n / 2 ^ 8 % 256);
  fourth = decimal (n % 256);
  text = refl;
  a = n / 2 ^ 24;
  b = n / 2 ^ 16 % 256;
  c = n / 2 ^ 8 % 256;
  d = n % 256;
  first_is = byte-is (n / 2 ^ 24) (omega arith);
  second_is = byte-is (n / 2 ^ 16 % 256) (omega arith);
  third_is = byte-is (n / 2 ^ 8 % 256) (omega arith);
  fourth_is = byte-is (n % 256) (omega arith);
  value = omega arith;
}

-- the text has digits and `.` alone
pub ipv4-lacks : (c : ℕ) (bs : List ℕ) (n : ℕ) → IsIpv4 bs n → is_ascii_digit c ≡ false → (46 == c) ≡ false → has_byte c bs ≡ false
ipv4-lacks c bs n h d e =
    let lack : (w : List ℕ) (a : ℕ) → IsByte w a → has_byte c w ≡ false = λ w a b. byte-lacks c w a b d in
    let z = or_from (46 == c) (has_byte c h.fourth) e (lack h.fourth h.d h.fourth_is) in
    let y = or_from (46 == c) (has_byte c (h.third ++ 46 ∷ h.fourth)) e (has-append c h.third (46 ∷ h.fourth) (lack h.third h.c h.third_is) z) in
    let x = or_from (46 == c) (has_byte c (h.second ++ 46 ∷ (h.third ++ 46 ∷ h.fourth))) e
    (has-append c h.second (46 ∷ (h.third ++ 46 ∷ h.fourth)) (lack h.second h.b h.second_is) y) in
    ap (has_byte c) h.text ∙ has-append c h.first (46 ∷ (h.second ++ 46 ∷ (h.third ++ 46 ∷ h.fourth))) (lack h.first h.a h.first_is) x

pub ipv4-nonempty : (bs : List ℕ) (n : ℕ) → IsIpv4 bs n → 0 < length bs
ipv4-nonempty bs n h = omega (arith, h.first_is.number.nonempty, ap length h.text, length-append h.first (46 ∷ (h.second ++ 46 ∷ (h.third ++ 46 ∷ h.fourth))))

pub ipv4-short : (n : ℕ) → n < 2 ^ 32 → length (ipv4_text n) ≤ 15
unfolding ipv4_text
ipv4-short n h =
    let w = decimal (n / 2 ^ 24) in
    let x = decimal (n / 2 ^ 16 % 256) in
    let y = decimal (n / 2 ^ 8 % 256) in
    let z = decimal (n % 256) in
    omega (
      arith,
      decimal-short (n / 2 ^ 24) (omega arith),
      decimal-short (n / 2 ^ 16 % 256) (omega arith),
      decimal-short (n / 2 ^ 8 % 256) (omega arith),
      decimal-short (n % 256) (omega arith),
      length-append w (46 ∷ (x ++ 46 ∷ (y ++ 46 ∷ z))),
      length-append x (46 ∷ (y ++ 46 ∷ z)),
      length-append y (46 ∷ z),
    )
