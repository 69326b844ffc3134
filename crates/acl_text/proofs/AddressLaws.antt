-- Addresses and prefixes as text: what is read is a text's value, and a value's text is read.
use Rattle.std.proofs.Common.{◌≡◌, ℕ, ◌-◌, ◌*◌, ◌/◌, ◌^◌, ◌<◌, ◌≤◌, true, false, ◌&&◌, ◌==◌, List, ◌∷◌, ◌++◌, length, Option, None, Some, IfSome, IfNone, decimal, inl, inr, refl, ap, sym, subst, ◌∙◌, arith, lit<}
use Rattle.std.specs.Str.{bytes_eq}
use Rattle.std.specs.Option.{option_map_or}
use Rattle.std.proofs.lemmas.Bool.{cond-true, cond-false, and_parts, and_from, or_from}
use Rattle.std.proofs.lemmas.Option.{none-some, same_Some}
use Rattle.std.proofs.lemmas.List.{length-append}
use Rattle.std.proofs.lemmas.Nat.{shl-shr}
use Rattle.std.proofs.Math.Nat.{div-mul-le_self}
use Rattle.acl_packet.specs.declared.addresses.Family.{Family}
use Rattle.acl_packet.specs.declared.addresses.Family.TheVariants.{V4, V6}
use Rattle.acl_packet.specs.declared.addresses.Prefix.{Prefix}
use Rattle.acl_packet.specs.Addresses.{width_of, IsPrefix, same_family}
use Rattle.acl_text.specs.Cuts.{cut_at, has_byte}
use Rattle.acl_packet.specs.Decimals.{IsNumber, number_in}
use Rattle.acl_text.specs.AddressTexts.{IsAddressText, spelling_in, address_text, address_in, block_of, IsPrefixText, family_in, full_in, block_in, prefix_in, prefix_text, spelled_prefix_in}
use Rattle.acl_packet.proofs.ChoiceLaws.{guarded}
use Rattle.acl_text.proofs.OptionStepLaws.{bound, bound_on, same_bytes, bytes_same}
use Rattle.acl_text.proofs.CutLaws.{cut-found, cut-again, cut-none, has-append}
use Rattle.acl_packet.proofs.DecimalLaws.{number-is, number-in, decimal-number}
use Rattle.acl_text.proofs.DigitLaws.{decimal-lacks}
use Rattle.acl_text.proofs.Dotted.{ipv4-is, ipv4-in, ipv4-small, ipv4-printed, ipv4-lacks, ipv4-nonempty}
use Rattle.acl_text.proofs.Gaps.{ipv6-is, ipv6-in}
use Rattle.acl_text.proofs.Printed.{IsForeign, ipv6-small, ipv6-printed, ipv6-lacks, ipv6-colon, ipv6-nonempty}

-- ---- addresses of either family

pub spelling-is : (f : Family) (bs : List ℕ) (n : ℕ) → spelling_in f bs ≡ Some n → IsAddressText f bs n
spelling-is V4 bs n e = ipv4-is bs n e
spelling-is V6 bs n e = ipv6-is bs n e

pub spelling-in : (f : Family) (bs : List ℕ) (n : ℕ) → IsAddressText f bs n → spelling_in f bs ≡ Some n
spelling-in V4 bs n h = ipv4-in bs n h
spelling-in V6 bs n h = ipv6-in bs n h

spelling-small : (f : Family) (bs : List ℕ) (n : ℕ) → IsAddressText f bs n → n < 2 ^ width_of f
spelling-small V4 bs n h = ipv4-small bs n h
spelling-small V6 bs n h = ipv6-small bs n h

address-printed : (f : Family) (n : ℕ) → n < 2 ^ width_of f → IsAddressText f (address_text f n) n
address-printed V4 n h = ipv4-printed n h
address-printed V6 n h = ipv6-printed n h

pub spelling-lacks : (f : Family) (c : ℕ) (bs : List ℕ) (n : ℕ) → IsAddressText f bs n → IsForeign c → has_byte c bs ≡ false
spelling-lacks V4 c bs n h w = ipv4-lacks c bs n h w.digit w.dot
spelling-lacks V6 c bs n h w = ipv6-lacks c bs n h w

pub spelling-nonempty : (f : Family) (bs : List ℕ) (n : ℕ) → IsAddressText f bs n → 0 < length bs
spelling-nonempty V4 bs n h = ipv4-nonempty bs n h
spelling-nonempty V6 bs n h = ipv6-nonempty bs n h

-- a text tells its family
spelling-family : (f : Family) (bs : List ℕ) (n : ℕ) → IsAddressText f bs n → family_in bs ≡ f
spelling-family V4 bs n h = cond-false (has_byte 58 bs) V6 V4 (ipv4-lacks 58 bs n h refl refl)
spelling-family V6 bs n h = cond-true (has_byte 58 bs) V6 V4 (ipv6-colon bs n h)

width-small : (f : Family) → width_of f < 2 ^ 64
width-small V4 = lit< tt
width-small V6 = lit< tt

-- ---- an address as it is printed

pub address-found : (f : Family) (bs : List ℕ) (n : ℕ) → address_in f bs ≡ Some n → (bs ≡ address_text f n) × (n < 2 ^ width_of f)
unfolding address_in
address-found f bs n e =
    let p = bound (spelling_in f bs) _ n e in
    let q = guarded (bytes_eq bs (address_text f p.0)) (Some p.0) n p.2 in
    let same : p.0 ≡ n = same_Some p.0 n q.1 in (
      same_bytes bs (address_text f p.0) q.0 ∙ ap (address_text f) same,
      subst (λ (m : ℕ). m < 2 ^ width_of f) same (spelling-small f bs p.0 (spelling-is f bs p.0 p.1)),
    )

pub address-again : (f : Family) (n : ℕ) → n < 2 ^ width_of f → address_in f (address_text f n) ≡ Some n
unfolding address_in
address-again f n h =
    bound_on _ n _ n (spelling-in f (address_text f n) n (address-printed f n h))
    (cond-true (bytes_eq (address_text f n) (address_text f n)) _ _ (bytes_same (address_text f n) (address_text f n) refl))

pub address-some : (f : Family) (bs : List ℕ) (o : Option ℕ) → o ≡ address_in f bs → IfSome o (λ n. (bs ≡ address_text f n) × (n < 2 ^ width_of f))
address-some f bs None e = tt
address-some f bs (Some n) e = address-found f bs n (sym e)

pub address-none : (f : Family) (bs : List ℕ) (o : Option ℕ) → o ≡ address_in f bs → IfNone o ((n : ℕ) → n < 2 ^ width_of f → bs ≡ address_text f n → ⊥)
address-none f bs None e = λ n h t. none-some n (e ∙ ap (address_in f) t ∙ address-again f n h)
address-none f bs (Some m) e = tt

pub address-lacks : (f : Family) (c n : ℕ) → n < 2 ^ width_of f → IsForeign c → has_byte c (address_text f n) ≡ false
address-lacks f c n h w = spelling-lacks f c (address_text f n) n (address-printed f n h) w

pub address-nonempty : (f : Family) (n : ℕ) → n < 2 ^ width_of f → 0 < length (address_text f n)
address-nonempty f n h = spelling-nonempty f (address_text f n) n (address-printed f n h)

-- ---- prefixes

-- the block of an address is a prefix
pub block-is : (f : Family) (n len : ℕ) → n < 2 ^ width_of f → len ≤ width_of f → IsPrefix (block_of f n len)
block-is f n len h l = record {
  len_fits = l;
  first_fits = lower n (2 ^ (width_of f - len)) (2 ^ width_of f) h;
  aligned = (n / 2 ^ (width_of f - len), refl);
}
  where
    lower : (n k m : ℕ) → n < m → n / k * k < m
    lower n k m h = omega (arith, div-mul-le_self n k)

full-is : (f : Family) (bs : List ℕ) (p : Prefix) → full_in f bs ≡ Some p → IsPrefixText bs p × IsPrefix p
unfolding full_in
full-is f bs p e =
    let n = bound (spelling_in f bs) _ p e in
    let h = spelling-is f bs n.0 n.1 in
    let P : Prefix → Type 0 = λ q. IsPrefixText bs q × IsPrefix q in
    let same : block_of f n.0 (width_of f) ≡ p = same_Some _ p n.2 in
    let text : IsPrefixText bs (block_of f n.0 (width_of f)) = record {
      address = bs;
      value = n.0;
      address_is = h;
      length_is = inl (refl, refl);
      cleared = refl;
    } in
    subst P same (text, block-is f n.0 (width_of f) (spelling-small f bs n.0 h) (omega arith))

block-found : (f : Family) (bs address word : List ℕ) (p : Prefix) → bs ≡ address ++ 47 ∷ word → block_in f address word ≡ Some p → IsPrefixText bs p × IsPrefix p
unfolding block_in
block-found f bs address word p t e =
    let n = bound (spelling_in f address) _ p e in
    let len = bound (number_in (width_of f) word) _ p n.2 in
    let h = spelling-is f address n.0 n.1 in
    let k = number-is (width_of f) len.0 word len.1 in
    let P : Prefix → Type 0 = λ q. IsPrefixText bs q × IsPrefix q in
    let same : block_of f n.0 len.0 ≡ p = same_Some _ p len.2 in
    let text : IsPrefixText bs (block_of f n.0 len.0) = record {
      address = address;
      value = n.0;
      address_is = h;
      length_is = inr (word, t, k.0, k.1);
      cleared = refl;
    } in
    subst P same (text, block-is f n.0 len.0 (spelling-small f address n.0 h) k.1)

prefix-step : (bs : List ℕ) (p : Prefix) (o : Option (List ℕ × List ℕ)) → cut_at 47 bs ≡ o
    → option_map_or {U = Option Prefix} (λ q. block_in (family_in q.0) q.0 q.1) o (full_in (family_in bs) bs) ≡ Some p → IsPrefixText bs p × IsPrefix p
prefix-step bs p None q e = full-is (family_in bs) bs p e
prefix-step bs p (Some parts) q e = block-found (family_in parts.0) bs parts.0 parts.1 p (cut-found 47 bs parts.0 parts.1 q).0 e

pub prefix-is : (bs : List ℕ) (p : Prefix) → prefix_in bs ≡ Some p → IsPrefixText bs p × IsPrefix p
unfolding prefix_in
prefix-is bs p e = prefix-step bs p (cut_at 47 bs) refl e

full-in : (f : Family) (bs : List ℕ) (n : ℕ) → IsAddressText f bs n → full_in f bs ≡ Some (block_of f n (width_of f))
unfolding full_in
full-in f bs n h = bound_on _ n _ _ (spelling-in f bs n h) refl

block-in : (f : Family) (address word : List ℕ) (n len : ℕ) → IsAddressText f address n → IsNumber word len → len ≤ width_of f
    → block_in f address word ≡ Some (block_of f n len)
unfolding block_in
block-in f address word n len h k l = bound_on _ n _ _ (spelling-in f address n h) (bound_on _ len _ _ (number-in (width_of f) len word k l) refl)

slash : IsForeign 47
slash = record { hex = refl; digit = refl; dot = refl; colon = refl }

pub prefix-in : (bs : List ℕ) (p : Prefix) → IsPrefixText bs p → prefix_in bs ≡ Some p
unfolding prefix_in
prefix-in bs p h = elim h.length_is [
  | inl l ↦
      let f = p.family in
      let text : IsAddressText f bs h.value = subst (λ (t : List ℕ). IsAddressText f t h.value) (sym l.0) h.address_is in
      ap (λ o. option_map_or {U = Option Prefix} (λ q. block_in (family_in q.0) q.0 q.1) o (full_in (family_in bs) bs)) (cut-none 47 bs (spelling-lacks f 47 bs h.value text slash))
      ∙ ap (λ g. full_in g bs) (spelling-family f bs h.value text)
      ∙ full-in f bs h.value text ∙ ap (λ k. Some (block_of f h.value k)) (sym l.1) ∙ ap Some (sym h.cleared)
  | inr l ↦
      let f = p.family in
      ap (λ o. option_map_or {U = Option Prefix} (λ q. block_in (family_in q.0) q.0 q.1) o (full_in (family_in bs) bs))
      (ap (cut_at 47) l.1 ∙ cut-again 47 h.address l.0 (spelling-lacks f 47 h.address h.value h.address_is slash))
      ∙ ap (λ g. block_in g h.address l.0) (spelling-family f h.address h.value h.address_is)
      ∙ block-in f h.address l.0 h.value p.len h.address_is l.2 l.3 ∙ ap Some (sym h.cleared)
]

pub prefix-some : (bs : List ℕ) (o : Option Prefix) → o ≡ prefix_in bs → IfSome o (λ p. IsPrefixText bs p × IsPrefix p)
prefix-some bs None e = tt
prefix-some bs (Some p) e = prefix-is bs p (sym e)

pub prefix-none : (bs : List ℕ) (o : Option Prefix) → o ≡ prefix_in bs → IfNone o ((p : Prefix) → IsPrefixText bs p → ⊥)
prefix-none bs None e = λ p h. none-some p (e ∙ prefix-in bs p h)
prefix-none bs (Some p) e = tt

-- a text is that of one prefix
pub prefix-one : (bs : List ℕ) (p q : Prefix) → IsPrefixText bs p → IsPrefixText bs q → p ≡ q
prefix-one bs p q h k = same_Some p q (sym (prefix-in bs p h) ∙ prefix-in bs q k)

-- ---- a prefix as it is printed

prefix-cleared : (p : Prefix) → IsPrefix p → p ≡ block_of p.family p.first p.len
prefix-cleared p h =
    let k : ℕ = width_of p.family - p.len in
    let n = h.aligned.0 in
    let whole : p.first / 2 ^ k * 2 ^ k ≡ n * 2 ^ k = ap (λ a. a / 2 ^ k * 2 ^ k) h.aligned.1 ∙ ap (λ a. a * 2 ^ k) (shl-shr n k) in
    let same : p.first ≡ p.first / 2 ^ k * 2 ^ k = h.aligned.1 ∙ sym whole in
    ap (made p.family p.len) same
  where
    made : Family → ℕ → ℕ → Prefix
    made f len a = record { family = f; first = a; len = len }

pub prefix-printed : (p : Prefix) → IsPrefix p → IsPrefixText (prefix_text p) p
unfolding prefix_text
prefix-printed p h = record {
  address = address_text p.family p.first;
  value = p.first;
  address_is = address-printed p.family p.first h.first_fits;
  length_is = inr (decimal p.len, refl, decimal-number p.len (wide p.family p.len h.len_fits), h.len_fits);
  cleared = prefix-cleared p h;
}
  where
    wide : (f : Family) (n : ℕ) → n ≤ width_of f → n < 2 ^ 128
    wide f n l = omega (arith, width-small f)

pub prefix-again : (p : Prefix) → IsPrefix p → prefix_in (prefix_text p) ≡ Some p
prefix-again p h = prefix-in (prefix_text p) p (prefix-printed p h)

same-family : (f g : Family) → same_family f g ≡ true → g ≡ f
same-family V4 V4 e = refl
same-family V4 V6 e = cc
same-family V6 V4 e = cc
same-family V6 V6 e = refl

family-same : (f g : Family) → g ≡ f → same_family f g ≡ true
family-same f g e = ap (same_family f) e ∙ self f
  where
    self : (f : Family) → same_family f f ≡ true
    self V4 = refl
    self V6 = refl

pub spelled-found : (f : Family) (bs : List ℕ) (p : Prefix) → spelled_prefix_in f bs ≡ Some p → (bs ≡ prefix_text p) × IsPrefix p × (p.family ≡ f)
unfolding spelled_prefix_in
spelled-found f bs p e =
    let q = bound (prefix_in bs) _ p e in
    let g = guarded (same_family f q.0.family && bytes_eq bs (prefix_text q.0)) (Some q.0) p q.2 in
    let t = and_parts (same_family f q.0.family) (bytes_eq bs (prefix_text q.0)) g.0 in
    let same : q.0 ≡ p = same_Some q.0 p g.1 in (
      same_bytes bs (prefix_text q.0) t.1 ∙ ap prefix_text same,
      subst (λ (r : Prefix). IsPrefix r) same (prefix-is bs q.0 q.1).1,
      ap (λ r. r.family) (sym same) ∙ same-family f q.0.family t.0,
    )

pub spelled-again : (f : Family) (p : Prefix) → IsPrefix p → p.family ≡ f → spelled_prefix_in f (prefix_text p) ≡ Some p
unfolding spelled_prefix_in
spelled-again f p h e =
    bound_on _ p _ p (prefix-again p h)
    (cond-true (same_family f p.family && bytes_eq (prefix_text p) (prefix_text p)) _ _
    (and_from (same_family f p.family) (bytes_eq (prefix_text p) (prefix_text p)) (family-same f p.family e) (bytes_same (prefix_text p) (prefix_text p) refl)))

pub spelled-some : (f : Family) (bs : List ℕ) (o : Option Prefix) → o ≡ spelled_prefix_in f bs → IfSome o (λ p. (bs ≡ prefix_text p) × IsPrefix p × (p.family ≡ f))
spelled-some f bs None e = tt
spelled-some f bs (Some p) e = spelled-found f bs p (sym e)

pub spelled-none : (f : Family) (bs : List ℕ) (o : Option Prefix) → o ≡ spelled_prefix_in f bs
    → IfNone o ((p : Prefix) → IsPrefix p → p.family ≡ f → bs ≡ prefix_text p → ⊥)
spelled-none f bs None e = λ p h g t. none-some p (e ∙ ap (spelled_prefix_in f) t ∙ spelled-again f p h g)
spelled-none f bs (Some p) e = tt

-- ---- the bytes of a prefix's text

pub prefix-lacks : (c : ℕ) (p : Prefix) → IsPrefix p → IsForeign c → (47 == c) ≡ false → has_byte c (prefix_text p) ≡ false
unfolding prefix_text
prefix-lacks c p h w s =
    has-append c (address_text p.family p.first) (47 ∷ decimal p.len) (address-lacks p.family c p.first h.first_fits w)
    (or_from (47 == c) (has_byte c (decimal p.len)) s (decimal-lacks c p.len (wide p.family p.len h.len_fits) w.digit))
  where
    wide : (f : Family) (n : ℕ) → n ≤ width_of f → n < 2 ^ 128
    wide f n l = omega (arith, width-small f)

pub prefix-nonempty : (p : Prefix) → 0 < length (prefix_text p)
unfolding prefix_text
prefix-nonempty p = omega (arith, length-append (address_text p.family p.first) (47 ∷ decimal p.len))

pub space : IsForeign 32
space = record { hex = refl; digit = refl; dot = refl; colon = refl }

pub line_feed : IsForeign 10
line_feed = record { hex = refl; digit = refl; dot = refl; colon = refl }
