-- Numbers as text: what is read is a number's text, and a number's text is read.
use Rattle.std.proofs.Common.{◌≡◌, ℕ, ◌+◌, ◌-◌, ◌*◌, ◌/◌, ◌%◌, ◌^◌, ◌<◌, ◌≤◌, Bool, true, false, not, ◌&&◌, ◌||◌, ◌==◌, nat_le, nat_lt, List, [], ◌∷◌, ◌++◌, length, get_or, Option, None, Some, IfSome, IfNone, decimal, inl, inr, refl, ap, sym, ◌∙◌, arith, rules}
use Rattle.std.specs.Str.{all_ascii_digits}
use Rattle.std.specs.Char.{is_ascii_digit}
use Rattle.std.proofs.lemmas.Bool.{cond-true, and_parts, and_from, leb-true, le-leb, ltb-true, lt-ltb, eqb-true, eq-eqb, ne_eqb, cases_eq, cases_lt, or_left, or_right, not_from_false, or_cases}
use Rattle.std.proofs.lemmas.Bool.Decides.{nat_tests}
use Rattle.std.proofs.lemmas.Option.{none-some, same_Some}
use Rattle.std.proofs.lemmas.Str.Parse.{IsNumeralModel, numerals_by_fold}
use Rattle.std.proofs.lemmas.Fmt.{decimal-digits_value, decimal_by_steps_wide, length-decimal-le}
use Rattle.std.proofs.lemmas.List.{length-append, get_or_append_left}
use Rattle.acl_packet.specs.Decimals.{worth, IsNumber, digits_in, has_front, number_in}
use Rattle.acl_packet.proofs.ChoiceLaws.{guarded}

own : IsNumeralModel (λ ds. all_ascii_digits ds ≡ true) (worth 0)
own = numerals_by_fold _ (search rules) worth (search rules)

-- digits make a number no smaller
worth-ge : (v : ℕ) (bs : List ℕ) → v ≤ worth v bs
worth-ge v [] = omega arith
worth-ge v (b ∷ bs) = omega (arith, worth-ge (v * 10 + (b - 48)) bs)

record IsDigits (most v n : ℕ) (bs : List ℕ) : Type 0 where
  digits : all_ascii_digits bs ≡ true
  value : worth v bs ≡ n
  small : n ≤ most

digits-found : (most v n : ℕ) (bs : List ℕ) → v ≤ most → digits_in most v bs ≡ Some n → IsDigits most v n bs
unfolding digits_in
digits-found most v n [] l e = let s : v ≡ n = same_Some v n e in record { digits = refl; value = s; small = omega arith }
digits-found most v n (b ∷ bs) l e =
    let next = v * 10 + (b - 48) in
    let p = guarded (is_ascii_digit b && nat_le next most) (digits_in most next bs) n e in
    let t = and_parts (is_ascii_digit b) (nat_le next most) p.0 in
    let r = digits-found most next n bs (leb-true next most t.1) p.1 in
    record { digits = and_from (is_ascii_digit b) (all_ascii_digits bs) t.0 r.digits; value = r.value; small = r.small }

digits-again : (most v : ℕ) (bs : List ℕ) → all_ascii_digits bs ≡ true → worth v bs ≤ most → digits_in most v bs ≡ Some (worth v bs)
unfolding digits_in
digits-again most v [] d l = refl
digits-again most v (b ∷ bs) d l =
    let next = v * 10 + (b - 48) in
    let t = and_parts (is_ascii_digit b) (all_ascii_digits bs) d in
    let small : next ≤ most = omega (arith, worth-ge next bs) in
    cond-true (is_ascii_digit b && nat_le next most) _ _ (and_from (is_ascii_digit b) (nat_le next most) t.0 (le-leb next most small))
    ∙ digits-again most next bs t.1 l

front-found : (bs : List ℕ) → has_front bs ≡ true → (0 < length bs) × (get_or bs 0 0 ≡ 48 → length bs ≡ 1)
front-found bs h =
    let p = and_parts (nat_lt 0 (length bs)) (not (get_or bs 0 0 == 48) || length bs == 1) h in (
      ltb-true 0 (length bs) p.0,
      λ z. elim (or_cases (not (get_or bs 0 0 == 48)) (length bs == 1) p.1) [
        | inl q ↦ absurd (both (get_or bs 0 0 == 48) (eq-eqb (get_or bs 0 0) 48 z) q)
        | inr q ↦ eqb-true (length bs) 1 q
      ],
    )
  where
    both : (b : Bool) → b ≡ true → not b ≡ true → ⊥
    both true e h = cc
    both false e h = cc

front-again : (bs : List ℕ) → 0 < length bs → (get_or bs 0 0 ≡ 48 → length bs ≡ 1) → has_front bs ≡ true
front-again bs p q = and_from (nat_lt 0 (length bs)) (not (get_or bs 0 0 == 48) || length bs == 1) (lt-ltb 0 (length bs) p)
    (elim (cases_eq (get_or bs 0 0) 48) [
      | inl z ↦ or_right (not (get_or bs 0 0 == 48)) (length bs == 1) (eq-eqb (length bs) 1 (q z))
      | inr z ↦ or_left (not (get_or bs 0 0 == 48)) (length bs == 1) (not_from_false (get_or bs 0 0 == 48) (ne_eqb (get_or bs 0 0) 48 z))
    ])

-- what is read is a number of at most the limit
pub number-is : (most n : ℕ) (bs : List ℕ) → number_in most bs ≡ Some n → IsNumber bs n × (n ≤ most)
unfolding number_in
number-is most n bs e =
    let p = guarded (has_front bs) (digits_in most 0 bs) n e in
    let f = front-found bs p.0 in
    let d = digits-found most 0 n bs (omega arith) p.1 in
    (record { nonempty = f.0; digits = d.digits; front = f.1; value = d.value }, d.small)

-- a number of at most the limit is read
pub number-in : (most n : ℕ) (bs : List ℕ) → IsNumber bs n → n ≤ most → number_in most bs ≡ Some n
unfolding number_in
number-in most n bs h l =
    cond-true (has_front bs) _ _ (front-again bs h.nonempty h.front)
    ∙ digits-again most 0 bs h.digits (omega (arith, h.value)) ∙ ap Some h.value

pub number_some : (most : ℕ) (bs : List ℕ) (o : Option ℕ) → o ≡ number_in most bs → IfSome o (λ n. IsNumber bs n × (n ≤ most))
number_some most bs None e = tt
number_some most bs (Some n) e = number-is most n bs (sym e)

pub number_none : (most : ℕ) (bs : List ℕ) (o : Option ℕ) → o ≡ number_in most bs → IfNone o ((n : ℕ) → IsNumber bs n → n ≤ most → ⊥)
number_none most bs None e = λ n h l. none-some n (e ∙ number-in most n bs h l)
number_none most bs (Some m) e = tt

-- a text is that of one number
pub number-one : (bs : List ℕ) (m n : ℕ) → IsNumber bs m → IsNumber bs n → m ≡ n
number-one bs m n h k = sym h.value ∙ k.value

-- ---- the decimal text

digit-at : (n : ℕ) → n < 10 → all_ascii_digits ((48 + n) ∷ []) ≡ true
digit-at n h = grind (arith, nat_tests)

record IsDecimal (n : ℕ) (ds : List ℕ) : Type 0 where
  nonempty : 0 < length ds
  digits : all_ascii_digits ds ≡ true
  front : 0 < n → 48 < get_or ds 0 0
  single : n < 10 → length ds ≡ 1
  value : worth 0 ds ≡ n

decimal-one : (n : ℕ) → n < 10 → IsDecimal n ((48 + n) ∷ [])
decimal-one n h = record {
  nonempty = omega arith;
  digits = digit-at n h;
  front = λ p. omega arith;
  single = λ p. refl;
  value = omega arith;
}

worth-append : (v c : ℕ) (bs : List ℕ) → worth v (bs ++ c ∷ []) ≡ worth v bs * 10 + (c - 48)
worth-append v c [] = refl
worth-append v c (b ∷ bs) = worth-append (v * 10 + (b - 48)) c bs

digits-append : (bs cs : List ℕ) → all_ascii_digits bs ≡ true → all_ascii_digits cs ≡ true → all_ascii_digits (bs ++ cs) ≡ true
digits-append [] cs h k = k
digits-append (b ∷ bs) cs h k =
    let p = and_parts (is_ascii_digit b) (all_ascii_digits bs) h in
    and_from (is_ascii_digit b) (all_ascii_digits (bs ++ cs)) p.0 (digits-append bs cs p.1 k)

decimal-more : (n : ℕ) (ds : List ℕ) → 10 ≤ n → IsDecimal (n / 10) ds → IsDecimal n (ds ++ ((48 + n % 10) ∷ []))
decimal-more n ds h d = record {
  nonempty = omega (arith, length-append ds ((48 + n % 10) ∷ []));
  digits = digits-append ds ((48 + n % 10) ∷ []) d.digits (digit-at (n % 10) (omega arith));
  front = λ p. rw (get_or_append_left ds ((48 + n % 10) ∷ []) 0 0 d.nonempty) (d.front (omega arith));
  single = λ p. absurd (omega arith);
  value = worth-append 0 (48 + n % 10) ds ∙ omega (arith, d.value);
}

decimal-is : (n : ℕ) → n < 10 ^ 64 → IsDecimal n (decimal n)
decimal-is n h = decimal_by_steps_wide IsDecimal decimal-one decimal-more n h

-- the decimal text is the number's
pub decimal-number : (n : ℕ) → n < 2 ^ 128 → IsNumber (decimal n) n
decimal-number n h =
    let d = decimal-is n (omega arith) in
    record {
      nonempty = d.nonempty;
      digits = d.digits;
      front = λ z. elim (cases_lt n 10) [ inl l ↦ d.single l | inr l ↦ absurd (omega (arith, d.front (omega arith))) ];
      value = d.value;
    }

pub number-again : (most n : ℕ) → n < 2 ^ 128 → n ≤ most → number_in most (decimal n) ≡ Some n
number-again most n fits l = number-in most n (decimal n) (decimal-number n fits) l

-- a number's text is the decimal text
pub number-text : (bs : List ℕ) (n : ℕ) → IsNumber bs n → n < 2 ^ 64 → bs ≡ decimal n
number-text bs n h l =
    let small : worth 0 bs < 2 ^ 64 = omega (arith, h.value) in
    sym (decimal-digits_value own bs h.digits h.nonempty h.front small) ∙ ap decimal h.value

pub number-found : (most n : ℕ) (bs : List ℕ) → most < 2 ^ 64 → number_in most bs ≡ Some n → (bs ≡ decimal n) × (n ≤ most)
number-found most n bs l e = let p = number-is most n bs e in (number-text bs n p.0 (omega (arith, p.1)), p.1)

pub decimal-nonempty : (n : ℕ) → n < 2 ^ 128 → 0 < length (decimal n)
decimal-nonempty n fits = (decimal-number n fits).nonempty

pub decimal-short : (n : ℕ) → n < 256 → length (decimal n) ≤ 3
decimal-short n h = length-decimal-le 3 n (omega arith) (omega arith) (omega arith)
