-- Words of numbers: what is read is the word's number, and a number's word is read.
use Rattle.std.proofs.Common.{◌≡◌, ℕ, ◌^◌, ◌<◌, ◌≤◌, ◌⊎◌, nat_lt, true, false, List, [], ◌∷◌, Option, None, Some, IfSome, IfNone, inl, inr, refl, ap, sym, ◌∙◌, arith}
use Rattle.std.specs.Option.{option_or}
use Rattle.std.specs.Str.{bytes_eq}
use Rattle.std.proofs.lemmas.Bool.{cond-false, le-ltb, ltb-false, false≢true, false_from_ne_true}
use Rattle.std.proofs.lemmas.Slice.Eq.{bytes_eq-Decides}
use Rattle.std.proofs.lemmas.Option.{none-some, same_Some}
use Rattle.acl_packet.specs.Decimals.{number_in}
use Rattle.acl_packet.specs.NumberWordSteps.{IsOfNames, begins_with_digit}
use Rattle.acl_packet.specs.NumberWords.{NumberWord, row_of, IsNumberWord, not_below, row_or_number}
use Rattle.acl_packet.proofs.ChoiceLaws.{refused}
use Rattle.acl_packet.proofs.DecimalLaws.{number-found, number-again}

not-below-found : (least n : ℕ) (o : Option ℕ) → not_below least o ≡ Some n → (o ≡ Some n) × (least ≤ n)
not-below-found least n None e = absurd (none-some n e)
not-below-found least n (Some m) e =
    let p = refused (nat_lt m least) (Some m) n e in
    let h : least ≤ m = ltb-false m least p.0 in
    let s : m ≡ n = same_Some m n p.1 in
    (p.1, omega arith)

not-below-again : (least n : ℕ) → least ≤ n → not_below least (Some n) ≡ Some n
not-below-again least n h = cond-false (nat_lt n least) _ _ (le-ltb n least h)

or-else-found : (o other : Option ℕ) (n : ℕ) → option_or o other ≡ Some n → (o ≡ Some n) ⊎ ((o ≡ None) × (other ≡ Some n))
or-else-found None other n e = inr (refl, e)
or-else-found (Some m) other n e = inl e

-- what is read is the word's number
word-found : (table : List NumberWord) (least most n : ℕ) (word : List ℕ) → most < 2 ^ 64 → row_or_number table least most word ≡ Some n
    → IsNumberWord table least most word n
unfolding row_or_number
word-found table least most n word l e = elim (or-else-found (row_of table word) (not_below least (number_in most word)) n e) [
  | inl h ↦ inl h
  | inr h ↦ let b = not-below-found least n (number_in most word) h.1 in
      let d = number-found most n word l b.0 in
      inr (h.0, d.0, b.1, d.1)
]

-- a number's word is read
word-again : (table : List NumberWord) (least most n : ℕ) (word : List ℕ) → most < 2 ^ 64 → IsNumberWord table least most word n
    → row_or_number table least most word ≡ Some n
unfolding row_or_number
word-again table least most n word l h = elim h [
  | inl e ↦ ap (λ o. option_or o (not_below least (number_in most word))) e
  | inr p ↦ ap (λ o. option_or o (not_below least (number_in most word))) p.0
      ∙ ap (λ w. not_below least (number_in most w)) p.1
      ∙ ap (not_below least) (number-again most n (omega arith) p.3) ∙ not-below-again least n p.2
]

pub word-some : (table : List NumberWord) (least most : ℕ) (word : List ℕ) (o : Option ℕ) → most < 2 ^ 64 → o ≡ row_or_number table least most word
    → IfSome o (λ n. IsNumberWord table least most word n)
word-some table least most word None l e = tt
word-some table least most word (Some n) l e = word-found table least most n word l (sym e)

pub word-none : (table : List NumberWord) (least most : ℕ) (word : List ℕ) (o : Option ℕ) → most < 2 ^ 64 → o ≡ row_or_number table least most word
    → IfNone o ((n : ℕ) → IsNumberWord table least most word n → ⊥)
word-none table least most word None l e = λ n h. none-some n (e ∙ word-again table least most n word l h)
word-none table least most word (Some m) l e = tt

-- a word that begins with a digit has no row
pub digits_have_no_row : (table : List NumberWord) (word : List ℕ) → IsOfNames table → begins_with_digit word ≡ true → row_of table word ≡ None
digits_have_no_row [] word h d = refl
digits_have_no_row (r ∷ rs) word h d =
    let other : bytes_eq word r.0 ≡ false =
    false_from_ne_true (bytes_eq word r.0) (λ e. false≢true (sym h.0 ∙ ap begins_with_digit (sym ((bytes_eq-Decides word r.0).0 e)) ∙ d)) in
    cond-false (bytes_eq word r.0) (Some r.1) (row_of rs word) other ∙ digits_have_no_row rs word h.1 d
