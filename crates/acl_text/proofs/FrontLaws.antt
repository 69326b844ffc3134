-- Texts that begin with a number of a byte, or with an IPv4 address.
use Rattle.std.proofs.Common.{◌≡◌, ℕ, ◌+◌, ◌*◌, ◌≤◌, true, List, [], ◌∷◌, ◌++◌, refl, ap, sym, ◌∙◌, arith}
use Rattle.std.specs.Str.{all_ascii_digits}
use Rattle.std.specs.Char.{is_ascii_digit}
use Rattle.std.proofs.lemmas.Bool.{and_from}
use Rattle.std.proofs.lemmas.List.{append_assoc}
use Rattle.acl_packet.specs.declared.addresses.Family.TheVariants.{V4}
use Rattle.acl_text.specs.Fronts.{IsAddressFront, IsByteFront, IsDigitFront}
use Rattle.acl_text.specs.Ipv4.{address_of}

-- ---- numbers of one digit to three

pub one_digit : (text rest : List ℕ) (a : ℕ) → IsDigitFront text rest a → IsByteFront text rest a
one_digit text rest a d = record {
  front = d.byte ∷ [];
  text_is = d.text_is;
  byte_is = record {
    number = record {
      nonempty = omega arith;
      digits = and_from (is_ascii_digit d.byte) true d.digit refl;
      front = λ z. refl;
      value = omega (arith, d.value);
    };
    small = omega (arith, d.small);
  };
}

pub two_digits : (text behind rest : List ℕ) (a b : ℕ) → IsDigitFront text behind a → IsDigitFront behind rest b → (a ≡ 0 → ⊥)
    → IsByteFront text rest (a * 10 + b)
two_digits text behind rest a b d e some = record {
  front = d.byte ∷ e.byte ∷ [];
  text_is = d.text_is ∙ ap (λ t. d.byte ∷ t) e.text_is;
  byte_is = record {
    number = record {
      nonempty = omega arith;
      digits = and_from (is_ascii_digit d.byte) (all_ascii_digits (e.byte ∷ [])) d.digit (and_from (is_ascii_digit e.byte) true e.digit refl);
      front = λ z. absurd (some (omega (arith, z, d.value)));
      value = omega (arith, d.value, e.value);
    };
    small = omega (arith, d.small, e.small);
  };
}

pub three_digits : (text behind end rest : List ℕ) (a b c : ℕ) → IsDigitFront text behind a → IsDigitFront behind end b → IsDigitFront end rest c
    → (a ≡ 0 → ⊥) → (a * 10 + b) * 10 + c ≤ 255 → IsByteFront text rest ((a * 10 + b) * 10 + c)
three_digits text behind end rest a b c d e f some small = record {
  front = d.byte ∷ e.byte ∷ f.byte ∷ [];
  text_is = d.text_is ∙ ap (λ t. d.byte ∷ t) (e.text_is ∙ ap (λ t. e.byte ∷ t) f.text_is);
  byte_is = record {
    number = record {
      nonempty = omega arith;
      digits = and_from (is_ascii_digit d.byte) (all_ascii_digits (e.byte ∷ f.byte ∷ [])) d.digit
          (and_from (is_ascii_digit e.byte) (all_ascii_digits (f.byte ∷ [])) e.digit (and_from (is_ascii_digit f.byte) true f.digit refl));
      front = λ z. absurd (some (omega (arith, z, d.value)));
      value = omega (arith, d.value, e.value, f.value);
    };
    small = small;
  };
}

-- ---- fronts

-- a number, and `.` and an address's rest behind it
pub joined : (text front rest next : List ℕ) (c : ℕ) → text ≡ front ++ rest → rest ≡ c ∷ next → text ≡ front ++ c ∷ next
joined text front rest next c h e = h ∙ ap (λ t. front ++ t) e

four_parts : (w x y z rest : List ℕ) → w ++ 46 ∷ (x ++ 46 ∷ (y ++ 46 ∷ (z ++ rest))) ≡ (w ++ 46 ∷ (x ++ 46 ∷ (y ++ 46 ∷ z))) ++ rest
four_parts w x y z rest =
    sym (append_assoc w (46 ∷ (x ++ 46 ∷ (y ++ 46 ∷ z))) rest
    ∙ ap (λ t. w ++ 46 ∷ t) (append_assoc x (46 ∷ (y ++ 46 ∷ z)) rest ∙ ap (λ t. x ++ 46 ∷ t) (append_assoc y (46 ∷ z) rest)))

pub ipv4_front : (text r s t u v x rest : List ℕ) (a b c d : ℕ) → IsByteFront text r a → r ≡ 46 ∷ s → IsByteFront s t b → t ≡ 46 ∷ u
    → IsByteFront u v c → v ≡ 46 ∷ x → IsByteFront x rest d → IsAddressFront V4 text rest (address_of a b c d)
ipv4_front text r s t u v x rest a b c d one e two f three g four = record {
  front = one.front ++ 46 ∷ (two.front ++ 46 ∷ (three.front ++ 46 ∷ four.front));
  text_is = joined text one.front r s 46 one.text_is e
      ∙ ap (λ k. one.front ++ 46 ∷ k) (joined s two.front t u 46 two.text_is f
      ∙ ap (λ k. two.front ++ 46 ∷ k) (joined u three.front v x 46 three.text_is g ∙ ap (λ k. three.front ++ 46 ∷ k) four.text_is))
      ∙ four_parts one.front two.front three.front four.front rest;
  address_is = record {
    first = one.front;
    second = two.front;
    third = three.front;
    fourth = four.front;
    text = refl;
    a = a;
    b = b;
    c = c;
    d = d;
    first_is = one.byte_is;
    second_is = two.byte_is;
    third_is = three.byte_is;
    fourth_is = four.byte_is;
    value = refl;
  };
}
