-- Texts that begin with the word of a prefix.
use Rattle.std.proofs.Common.{◌≡◌, ℕ, ◌≤◌, true, false, ◌&&◌, ◌||◌, ◌==◌, nat_le, List, [], ◌∷◌, ◌++◌, inl, inr, refl, ap, sym, subst, ◌∙◌, arith}
use Rattle.std.specs.List.{list_all}
use Rattle.std.specs.Str.{all_ascii_digits}
use Rattle.std.specs.Char.{is_ascii_digit}
use Rattle.std.proofs.lemmas.Bool.{and_parts, and_from, or_parts, cases_Bool, cond-false, eq-eqb, false≢true, le-leb, leb-true, ne_eqb}
use Rattle.std.proofs.lemmas.List.{append_assoc, append-nil, length-append}
use Rattle.acl_packet.specs.declared.addresses.Family.{Family}
use Rattle.acl_packet.specs.declared.addresses.Prefix.{Prefix}
use Rattle.acl_packet.specs.Addresses.{width_of}
use Rattle.acl_text.specs.AddressTexts.{IsAddressText, IsPrefixText, block_of}
use Rattle.acl_text.specs.Cuts.{has_byte}
use Rattle.acl_text.specs.Fronts.{IsAddressFront, IsByteFront, IsPrefixFront, is_prefix_byte}
use Rattle.acl_text.proofs.AddressLaws.{spelling-lacks, spelling-nonempty}
use Rattle.acl_text.proofs.FrontLaws.{joined}
use Rattle.acl_text.proofs.Printed.{IsForeign}

-- ---- bytes

-- a part of a range that a byte is not in
outside : (low high a b c : ℕ) → (nat_le low c && nat_le c high) ≡ false → low ≤ a → b ≤ high → (nat_le a c && nat_le c b) ≡ false
outside low high a b c f l h = elim (cases_Bool (nat_le a c && nat_le c b)) [
  | inl t ↦
      let p = and_parts (nat_le a c) (nat_le c b) t in
      absurd (false≢true (sym f ∙ and_from (nat_le low c) (nat_le c high) (le-leb low c (omega (arith, l, leb-true a c p.0))) (le-leb c high (omega (arith, h, leb-true c b p.1)))))
  | inr g ↦ g
]

foreign : (c : ℕ) → is_prefix_byte c ≡ false → IsForeign c
foreign c f =
    let p = or_parts (nat_le 46 c && nat_le c 58) ((nat_le 65 c && nat_le c 70) || (nat_le 97 c && nat_le c 102)) f in
    let q = or_parts (nat_le 65 c && nat_le c 70) (nat_le 97 c && nat_le c 102) p.1 in
    let digit = outside 46 58 48 57 c p.0 (omega arith) (omega arith) in
    record {
      hex = cond-false (nat_le 48 c && nat_le c 57) _ _ digit ∙ cond-false (nat_le 97 c && nat_le c 102) _ _ q.1 ∙ cond-false (nat_le 65 c && nat_le c 70) _ _ q.0;
      digit = digit;
      dot = ne_eqb 46 c (λ e. false≢true (sym p.0 ∙ ap (λ n. nat_le 46 n && nat_le n 58) (sym e)));
      colon = ne_eqb 58 c (λ e. false≢true (sym p.0 ∙ ap (λ n. nat_le 46 n && nat_le n 58) (sym e)));
    }

-- a text without foreign bytes has the others alone
own_bytes : (bs : List ℕ) → ((c : ℕ) → is_prefix_byte c ≡ false → has_byte c bs ≡ false) → list_all is_prefix_byte bs ≡ true
own_bytes [] h = refl
own_bytes (b ∷ bs) h = elim (cases_Bool (is_prefix_byte b)) [
  | inl t ↦ and_from (is_prefix_byte b) (list_all is_prefix_byte bs) t (own_bytes bs (λ c f. (or_parts (b == c) (has_byte c bs) (h c f)).1))
  | inr f ↦ absurd (false≢true (sym (or_parts (b == b) (has_byte b bs) (h b f)).0 ∙ eq-eqb b b refl))
]

address_bytes : (f : Family) (bs : List ℕ) (n : ℕ) → IsAddressText f bs n → list_all is_prefix_byte bs ≡ true
address_bytes f bs n h = own_bytes bs (λ c w. spelling-lacks f c bs n h (foreign c w))

digit_byte : (b : ℕ) → is_ascii_digit b ≡ true → is_prefix_byte b ≡ true
digit_byte b h = elim (cases_Bool (is_prefix_byte b)) [
  | inl t ↦ t
  | inr f ↦ absurd (false≢true (sym (foreign b f).digit ∙ h))
]

digit_bytes : (bs : List ℕ) → all_ascii_digits bs ≡ true → list_all is_prefix_byte bs ≡ true
digit_bytes [] h = refl
digit_bytes (b ∷ bs) h =
    let p = and_parts (is_ascii_digit b) (all_ascii_digits bs) h in
    and_from (is_prefix_byte b) (list_all is_prefix_byte bs) (digit_byte b p.0) (digit_bytes bs p.1)

all_joined : (xs ys : List ℕ) → list_all is_prefix_byte xs ≡ true → list_all is_prefix_byte ys ≡ true → list_all is_prefix_byte (xs ++ ys) ≡ true
all_joined [] ys h k = k
all_joined (x ∷ xs) ys h k =
    let p = and_parts (is_prefix_byte x) (list_all is_prefix_byte xs) h in
    and_from (is_prefix_byte x) (list_all is_prefix_byte (xs ++ ys)) p.0 (all_joined xs ys p.1 k)

-- ---- prefixes

pub host_front : (f : Family) (text rest : List ℕ) (n : ℕ) (p : Prefix) → IsAddressFront f text rest n → p ≡ block_of f n (width_of f) → IsPrefixFront text rest p
host_front f text rest n p h e = subst (λ q. IsPrefixFront text rest q) (sym e) (record {
  word = h.front;
  nonempty = spelling-nonempty f h.front n h.address_is;
  text_is = h.text_is;
  prefix_is = record {
    address = h.front;
    value = n;
    address_is = h.address_is;
    length_is = inl (refl, refl);
    cleared = refl;
  };
  bytes = address_bytes f h.front n h.address_is;
})

pub block_front : (f : Family) (text between behind rest : List ℕ) (n len : ℕ) (p : Prefix) → IsAddressFront f text between n → between ≡ 47 ∷ behind
    → IsByteFront behind rest len → len ≤ width_of f → p ≡ block_of f n len → IsPrefixFront text rest p
block_front f text between behind rest n len p h s k small e = subst (λ q. IsPrefixFront text rest q) (sym e) (record {
  word = h.front ++ 47 ∷ k.front;
  nonempty = omega (arith, length-append h.front (47 ∷ k.front));
  text_is = joined text h.front between behind 47 h.text_is s ∙ ap (λ t. h.front ++ 47 ∷ t) k.text_is ∙ sym (append_assoc h.front (47 ∷ k.front) rest);
  prefix_is = record {
    address = h.front;
    value = n;
    address_is = h.address_is;
    length_is = inr (k.front, refl, k.byte_is.number, small);
    cleared = refl;
  };
  bytes = all_joined h.front (47 ∷ k.front) (address_bytes f h.front n h.address_is) (digit_bytes k.front k.byte_is.number.digits);
})

-- nothing stands behind the word
pub whole_front : (text rest : List ℕ) (p : Prefix) → IsPrefixFront text rest p → rest ≡ [] → IsPrefixText text p
whole_front text rest p h e = subst (λ t. IsPrefixText t p) (sym (h.text_is ∙ ap (λ r. h.word ++ r) e ∙ append-nil h.word)) h.prefix_is
