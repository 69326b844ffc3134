-- What the numbers of words are, and what words have that pass all questions.
use Rattle.std.proofs.Common.{◌≡◌, ◌≢◌, ℕ, ◌^◌, ◌<◌, ◌≤◌, Bool, true, false, ◌&&◌, nat_le, List, [], ◌∷◌, ◌++◌, Option, None, Some, inl, inr, refl, ap, sym, ◌∙◌, arith}
use Rattle.std.specs.Prelude.{flat_map, option_to_list}
use Rattle.std.specs.List.{list_all}
use Rattle.std.specs.Str.{bytes_eq}
use Rattle.std.proofs.lemmas.Bool.{and_parts, both_ways, leb-true}
use Rattle.std.proofs.lemmas.Option.{none-some, same_Some}
use Rattle.std.specs.Option.{option_or}
use Rattle.acl_packet.specs.declared.addresses.Family.{Family}
use Rattle.acl_packet.specs.declared.addresses.Family.TheVariants.{V4, V6}
use Rattle.acl_packet.specs.NumberWords.{NumberWord, row_of, row_or_number, protocols, types_of, protocol_in, icmp_in}
use Rattle.acl_packet.proofs.ChoiceLaws.{chosen}
use Rattle.acl_packet.proofs.DecimalLaws.{number-is}
use Rattle.acl_packet.proofs.NumberWordLaws.{word-some}
use Rattle.acl_text.specs.declared.faults.Code.{Code}
use Rattle.acl_words.specs.declared.word_lists.Word.{Word}
use Rattle.acl_terms.specs.Matching.{AnyOf, code_in, only, type_in}
use Rattle.acl_terms.specs.Slips.{unless, first_unless}

-- ---- the numbers of words

row-passes : (test : ℕ → Bool) (table : List NumberWord) (word : List ℕ) (n : ℕ)
    → list_all {X = NumberWord} (λ r. test r.1) table ≡ true → row_of table word ≡ Some n → test n ≡ true
row-passes test [] word n h e = absurd (none-some n e)
row-passes test (r ∷ rs) word n h e =
    let p = and_parts (test r.1) (list_all {X = NumberWord} (λ q. test q.1) rs) h in
    elim (chosen (bytes_eq word r.0) (Some r.1) (row_of rs word) (Some n) e) [
      | inl a ↦ sym (ap test (same_Some r.1 n a.1)) ∙ p.0
      | inr b ↦ row-passes test rs word n p.1 b.1
    ]

within : (table : List NumberWord) (least most n : ℕ) (word : List ℕ) → most < 2 ^ 64
    → list_all {X = NumberWord} (λ r. nat_le least r.1 && nat_le r.1 most) table ≡ true
    → row_or_number table least most word ≡ Some n → (least ≤ n) × (n ≤ most)
within table least most n word small h e = elim (word-some table least most word (Some n) small (sym e)) [
  | inl row ↦ let p = and_parts (nat_le least n) (nat_le n most)
      (row-passes (λ k. nat_le least k && nat_le k most) table word n h row) in
      (leb-true least n p.0, leb-true n most p.1)
  | inr q ↦ (q.2, q.3)
]

pub protocol-within : (n : ℕ) (word : List ℕ) → protocol_in word ≡ Some n → (1 ≤ n) × (n ≤ 255)
unfolding protocol_in
protocol-within n word e = within protocols 1 255 n word (omega arith) refl e

icmp-within : (f : Family) (n : ℕ) (word : List ℕ) → icmp_in f word ≡ Some n → n ≤ 254
unfolding icmp_in
icmp-within V4 n word e = (within (types_of V4) 0 254 n word (omega arith) refl e).1
icmp-within V6 n word e = (within (types_of V6) 0 254 n word (omega arith) refl e).1

pub type-within : (f : Option Family) (n : ℕ) (word : List ℕ) → type_in f word ≡ Some n → n ≤ 254
type-within None n word e = absurd (none-some n e)
type-within (Some f) n word e = icmp-within f n word e

pub code-within : (n : ℕ) (word : List ℕ) → code_in word ≡ Some n → n ≤ 255
code-within n word e = (number-is 255 n word e).1

-- ---- answers that are none

pub parts : {X : Type 0} (a b : Option X) → option_or a b ≡ None → (a ≡ None) × (b ≡ None)
parts None b h = (refl, h)
parts (Some x) b h = absurd (none-some x (sym h))

pub passed : (b : Bool) (code : Code) (w : Word) → unless b code w ≡ None → b ≡ true
passed true code w h = refl
passed false code w h = absurd (none-some _ (sym h))

-- Where words are written, the test is passed.
pub first-passed : (b : Bool) (code : Code) (ws : List Word) → first_unless b code ws ≡ None → ws ≢ [] → b ≡ true
first-passed b code [] h some = absurd (some refl)
first-passed b code (w ∷ ws) h some = passed b code w h

pub none-more : {A : Type 0} (x : A) (xs : List A) → x ∷ xs ≢ []
none-more x xs = λ e. cc

pub left-some : {A : Type 0} (xs ys : List A) → xs ≢ [] → xs ++ ys ≢ []
left-some [] ys h = absurd (h refl)
left-some (x ∷ xs) ys h = none-more x (xs ++ ys)

pub right-some : {A : Type 0} (xs ys : List A) → ys ≢ [] → xs ++ ys ≢ []
right-some [] ys h = h
right-some (x ∷ xs) ys h = none-more x (xs ++ ys)

pub some-only : (test : ℕ → Bool) (qs : List ℕ) → only test qs ≡ true → qs ≢ []
some-only test [] h = absurd (both_ways false refl h)
some-only test (q ∷ qs) h = none-more q qs

-- ---- tests of all numbers of words

pub only-all : (test : ℕ → Bool) (qs : List ℕ) → only test qs ≡ true → list_all test qs ≡ true
only-all test [] h = refl
only-all test (q ∷ qs) h = h

step : (test : ℕ → Bool) (o : Option ℕ) (rest : List ℕ) (n : ℕ) → list_all test (option_to_list o ++ rest) ≡ true
    → (o ≡ Some n → test n ≡ true) × (list_all test rest ≡ true)
step test None rest n h = (λ e. absurd (none-some n e), h)
step test (Some k) rest n h =
    let p = and_parts (test k) (list_all test rest) h in
    (λ e. sym (ap test (same_Some k n e)) ∙ p.0, p.1)

-- A number of one of the words passes a test that all numbers of the words pass.
pub any-passes : (test : ℕ → Bool) (f : Word → Option ℕ) (ws : List Word) (n : ℕ)
    → list_all test (flat_map (λ w. option_to_list (f w)) ws) ≡ true
    → AnyOf (λ w. f w ≡ Some n) ws → test n ≡ true
any-passes test f [] n h a = absurd a
any-passes test f (w ∷ ws) n h a =
    let p = step test (f w) (flat_map (λ v. option_to_list (f v)) ws) n h in
    elim a [ inl e ↦ p.0 e | inr r ↦ any-passes test f ws n p.1 r ]

-- Where one of the words has a number, that number passes a test that each number of a word passes.
pub any-number : (f : Word → Option ℕ) (P : ℕ → Type 0) (ws : List Word) (n : ℕ)
    → ((w : Word) → f w ≡ Some n → P n) → AnyOf (λ w. f w ≡ Some n) ws → P n
any-number f P [] n h a = absurd a
any-number f P (w ∷ ws) n h a = elim a [ inl e ↦ h w e | inr r ↦ any-number f P ws n h r ]
