-- The words that the language names, and the values of its keywords, can be printed.
use Rattle.std.proofs.Common.{◌≡◌, ℕ, ◌+◌, ◌/◌, ◌%◌, ◌<◌, ◌≤◌, ◌==◌, Bool, true, false, not, ◌&&◌, ◌||◌, nat_le, nat_lt, if◌then◌else◌, ℤ, pos, negsuc, List, [], ◌∷◌, ◌++◌, length, Option, None, Some, IfSome, is_some, option_and_then, decimal, inl, inr, refl, ap, sym, subst, ◌∙◌, codes, arith}
use Rattle.std.specs.List.{list_all}
use Rattle.std.specs.Char.{is_ascii_digit}
use Rattle.std.specs.Str.{bytes_eq, all_ascii_digits}
use Rattle.std.proofs.lemmas.Bool.Decides.{nat_tests}
use Rattle.std.proofs.lemmas.Int.{ints}
use Rattle.std.proofs.lemmas.Option.{none-some}
use Rattle.std.proofs.lemmas.Slice.Eq.{bytes_eq-Decides}
use Rattle.jiff_core.proofs.CalendarLemmas.{days_in_month_bounds}
use Rattle.acl_packet.specs.declared.addresses.Family.TheVariants.{V4, V6}
use Rattle.acl_packet.specs.Decimals.{IsNumber, number_in}
use Rattle.acl_packet.specs.NumberWords.{NumberWord, protocols, icmp_types, icmpv6_types, row_of, IsNumberWord, protocol_in, icmp_in}
use Rattle.acl_packet.proofs.DecimalLaws.{number-is, number-again}
use Rattle.acl_packet.proofs.NumberWordLaws.{word-some}
use Rattle.acl_text.specs.Names.{is_letter, is_name_byte, is_name, is_filter_name}
use Rattle.acl_text.specs.SignedNumbers.{IsSignedWord}
use Rattle.acl_words.specs.declared.forms.Form.{Form}
use Rattle.acl_words.specs.declared.forms.Form.TheVariants as forms
use Rattle.acl_words.specs.Tokens.{Token}
use Rattle.acl_host.specs.DaySteps.{day_in}
use Rattle.acl_host.specs.Days.{two_digits, full_date, IsDayText}
use Rattle.acl_host.specs.NamedDays.{day_at, day_named}
use Rattle.acl_host.proofs.DayTextLaws.{day-text-found}
use Rattle.acl_policy.specs.declared.keywords.Keyword.{Keyword}
use Rattle.acl_policy.specs.declared.keywords.Keyword.TheVariants as keywords
use Rattle.acl_policy.specs.declared.values.Takes.{Takes}
use Rattle.acl_policy.specs.declared.values.Takes.TheVariants as takes
use Rattle.acl_policy.specs.Keywords.{entry}
use Rattle.acl_policy.specs.Values.{is_action, is_option, is_logging, is_icmp_type, is_icmp_code, is_plain, is_value, text_fits, form_fits}
use Rattle.policy_grammar.specs.PrintedWords.{begins_with_colon, has_colons, is_word_byte, IsPlainText, IsKeywordText, TextIs}
use Rattle.policy_grammar.proofs.Outcomes.{and_left, and_right, and_both}
use Rattle.policy_grammar.proofs.TargetLineLaws.{plain_is}

-- Bytes of words but for the colon.
abbrev is_clean : ℕ → Bool
is_clean b = is_word_byte b && not (b == 58)

clean_words : (text : List ℕ) → list_all is_clean text ≡ true → list_all is_word_byte text ≡ true
clean_words [] h = refl
clean_words (b ∷ bs) h =
    and_both (is_word_byte b) (list_all is_word_byte bs)
    (and_left (is_word_byte b) (not (b == 58)) (and_left (is_clean b) (list_all is_clean bs) h))
    (clean_words bs (and_right (is_clean b) (list_all is_clean bs) h))

not_colon : (b : Bool) → not b ≡ true → b ≡ false
not_colon false h = refl
not_colon true h = cc

clean_colons : (text : List ℕ) → list_all is_clean text ≡ true → has_colons text ≡ false
clean_colons [] h = refl
clean_colons (b ∷ bs) h =
    ap (λ c. c && begins_with_colon bs || has_colons bs)
    (not_colon (b == 58) (and_right (is_word_byte b) (not (b == 58)) (and_left (is_clean b) (list_all is_clean bs) h)))
    ∙ clean_colons bs (and_right (is_clean b) (list_all is_clean bs) h)

clean_plain : (text : List ℕ) → 0 < length text → list_all is_clean text ≡ true → IsPlainText text
clean_plain text n h = record { some_byte = n; bytes_are = clean_words text h; no_colons = clean_colons text h }

all_weaker : (p q : ℕ → Bool) → ((b : ℕ) → p b ≡ true → q b ≡ true) → (text : List ℕ) → list_all p text ≡ true
    → list_all q text ≡ true
all_weaker p q w [] h = refl
all_weaker p q w (b ∷ bs) h =
    and_both (q b) (list_all q bs) (w b (and_left (p b) (list_all p bs) h))
    (all_weaker p q w bs (and_right (p b) (list_all p bs) h))

name_clean : (b : ℕ) → is_name_byte b ≡ true → is_clean b ≡ true
name_clean b h = grind (arith, nat_tests)

digit_clean : (b : ℕ) → is_ascii_digit b ≡ true → is_clean b ≡ true
digit_clean b h = grind (arith, nat_tests)

-- Names and numbers.
pub name_plain : (text : List ℕ) → is_name text ≡ true → IsPlainText text
name_plain [] h = absurd (no_name h)
  where
    no_name : false ≡ true → ⊥
    no_name e = cc
name_plain (b ∷ bs) h = clean_plain (b ∷ bs) (omega arith)
    (all_weaker is_name_byte is_clean name_clean (b ∷ bs)
    (and_right (nat_le (length (b ∷ bs)) 128) (list_all is_name_byte (b ∷ bs)) h))

pub filter_name_plain : (text : List ℕ) → is_filter_name text ≡ true → IsPlainText text
filter_name_plain [] h = absurd (no_name h)
  where
    no_name : false ≡ true → ⊥
    no_name e = cc
filter_name_plain (b ∷ bs) h = clean_plain (b ∷ bs) (omega arith)
    (all_weaker is_name_byte is_clean name_clean (b ∷ bs)
    (and_right (nat_le (length (b ∷ bs)) 64) (list_all is_name_byte (b ∷ bs))
    (and_right (is_letter b) (nat_le (length (b ∷ bs)) 64 && list_all is_name_byte (b ∷ bs)) h)))

digits_all : (bs : List ℕ) → all_ascii_digits bs ≡ true → list_all is_ascii_digit bs ≡ true
digits_all [] h = refl
digits_all (b ∷ bs) h = and_both (is_ascii_digit b) (list_all is_ascii_digit bs)
    (and_left (is_ascii_digit b) (all_ascii_digits bs) h)
    (digits_all bs (and_right (is_ascii_digit b) (all_ascii_digits bs) h))

number_clean : (bs : List ℕ) (n : ℕ) → IsNumber bs n → list_all is_clean bs ≡ true
number_clean bs n h = all_weaker is_ascii_digit is_clean digit_clean bs (digits_all bs h.digits)

number_plain : (bs : List ℕ) (n : ℕ) → IsNumber bs n → IsPlainText bs
number_plain bs n h = clean_plain bs h.nonempty (number_clean bs n h)

pub signed_plain : (text : List ℕ) (z : ℤ) → IsSignedWord 32768 32767 text z → IsPlainText text
signed_plain text (pos n) h = number_plain text n h.0
signed_plain text (negsuc n) h = subst IsPlainText (sym h.1)
    (clean_plain (45 ∷ h.0) (omega arith) (and_both (is_clean 45) (list_all is_clean h.0) refl (number_clean h.0 (n + 1) h.2)))

-- Words that are written out.
abbrev plain_test : List ℕ → Bool
plain_test text = nat_lt 0 (length text) && list_all is_clean text

some_bytes : (n : ℕ) → nat_lt 0 n ≡ true → 0 < n
some_bytes n h = grind (arith, nat_tests)

pub literal : (text : List ℕ) → plain_test text ≡ true → IsPlainText text
literal text h = clean_plain text (some_bytes (length text) (and_left (nat_lt 0 (length text)) (list_all is_clean text) h))
    (and_right (nat_lt 0 (length text)) (list_all is_clean text) h)

pub keyword_literal : (front : List ℕ) → list_all is_word_byte front ≡ true → has_colons (front ++ codes ":") ≡ false
    → IsKeywordText (front ++ codes "::")
keyword_literal front h k = record { front = front; bytes_are = h; no_colons = k; text_is = refl }

is_text : (bs text : List ℕ) → plain_test text ≡ true → bytes_eq bs text ≡ true → IsPlainText bs
is_text bs text t h = subst IsPlainText (sym ((bytes_eq-Decides bs text).0 h)) (literal text t)

either_plain : (bs : List ℕ) (x y : Bool) → (x ≡ true → IsPlainText bs) → (y ≡ true → IsPlainText bs) → (x || y) ≡ true
    → IsPlainText bs
either_plain bs true y h k e = h refl
either_plain bs false y h k e = k e

action_plain : (bs : List ℕ) → is_action bs ≡ true → IsPlainText bs
action_plain bs =
    either_plain bs (bytes_eq bs (codes "accept") || bytes_eq bs (codes "deny") || bytes_eq bs (codes "reject"))
    (bytes_eq bs (codes "reject-with-tcp-rst"))
    (either_plain bs (bytes_eq bs (codes "accept") || bytes_eq bs (codes "deny")) (bytes_eq bs (codes "reject"))
    (either_plain bs (bytes_eq bs (codes "accept")) (bytes_eq bs (codes "deny")) (is_text bs (codes "accept") refl)
    (is_text bs (codes "deny") refl))
    (is_text bs (codes "reject") refl))
    (is_text bs (codes "reject-with-tcp-rst") refl)

option_plain : (bs : List ℕ) → is_option bs ≡ true → IsPlainText bs
option_plain bs =
    either_plain bs (bytes_eq bs (codes "established") || bytes_eq bs (codes "tcp-established") || bytes_eq bs
    (codes "tcp-initial")) (bytes_eq bs (codes "rst"))
    (either_plain bs (bytes_eq bs (codes "established") || bytes_eq bs (codes "tcp-established"))
    (bytes_eq bs (codes "tcp-initial"))
    (either_plain bs (bytes_eq bs (codes "established")) (bytes_eq bs (codes "tcp-established"))
    (is_text bs (codes "established") refl) (is_text bs (codes "tcp-established") refl))
    (is_text bs (codes "tcp-initial") refl))
    (is_text bs (codes "rst") refl)

logging_plain : (bs : List ℕ) → is_logging bs ≡ true → IsPlainText bs
logging_plain bs =
    either_plain bs (bytes_eq bs (codes "true") || bytes_eq bs (codes "True")) (bytes_eq bs (codes "syslog"))
    (either_plain bs (bytes_eq bs (codes "true")) (bytes_eq bs (codes "True")) (is_text bs (codes "true") refl)
    (is_text bs (codes "True") refl))
    (is_text bs (codes "syslog") refl)

-- Protocols and types: words of a table, and numbers.
row_plain : (table : List NumberWord) (bs : List ℕ) (n : ℕ) → list_all (λ (r : NumberWord). plain_test r.0) table ≡ true
    → row_of table bs ≡ Some n → IsPlainText bs
row_plain [] bs n h e = absurd (none-some n e)
row_plain (r ∷ rs) bs n h e =
    by_row (bytes_eq bs r.0) refl e (row_plain rs bs n (and_right (plain_test r.0) (list_all (λ (x : NumberWord). plain_test x.0) rs) h))
  where
    by_row : (b : Bool) → bytes_eq bs r.0 ≡ b → (if b then Some r.1 else row_of rs bs) ≡ Some n
        → (row_of rs bs ≡ Some n → IsPlainText bs) → IsPlainText bs
    by_row true c e go = is_text bs r.0 (and_left (plain_test r.0) (list_all (λ (x : NumberWord). plain_test x.0) rs) h) c
    by_row false c e go = go e

number_word_plain : (table : List NumberWord) (least most : ℕ) (bs : List ℕ) (n : ℕ)
    → list_all (λ (r : NumberWord). plain_test r.0) table ≡ true → most < 256
    → IsNumberWord table least most bs n → IsPlainText bs
number_word_plain table least most bs n t m h = elim h [
  | inl e ↦ row_plain table bs n t e
  | inr p ↦ subst IsPlainText (sym p.1)
      (number_plain (decimal n) n (number-is most n (decimal n) (number-again most n (omega (arith, p.3)) p.3)).0)
]

some_word_plain : (table : List NumberWord) (least most : ℕ) (bs : List ℕ) (o : Option ℕ)
    → list_all (λ (r : NumberWord). plain_test r.0) table ≡ true → most < 256
    → IfSome o (λ n. IsNumberWord table least most bs n) → is_some o ≡ true → IsPlainText bs
some_word_plain table least most bs (Some n) t m h e = number_word_plain table least most bs n t m h
some_word_plain table least most bs None t m h e = cc

protocol_plain : (bs : List ℕ) → is_some (protocol_in bs) ≡ true → IsPlainText bs
unfolding protocol_in
protocol_plain bs = some_word_plain protocols 1 255 bs (protocol_in bs) refl (omega arith)
    (word-some protocols 1 255 bs (protocol_in bs) (omega arith) refl)

icmp_plain : (bs : List ℕ) → is_icmp_type bs ≡ true → IsPlainText bs
unfolding icmp_in
icmp_plain bs = either_plain bs (is_some (icmp_in V4 bs)) (is_some (icmp_in V6 bs))
    (some_word_plain icmp_types 0 254 bs (icmp_in V4 bs) refl (omega arith)
    (word-some icmp_types 0 254 bs (icmp_in V4 bs) (omega arith) refl))
    (some_word_plain icmpv6_types 0 254 bs (icmp_in V6 bs) refl (omega arith)
    (word-some icmpv6_types 0 254 bs (icmp_in V6 bs) (omega arith) refl))

code_plain : (bs : List ℕ) → is_icmp_code bs ≡ true → IsPlainText bs
code_plain bs = by_number (number_in 255 bs) refl
  where
    by_number : (o : Option ℕ) → number_in 255 bs ≡ o → is_some o ≡ true → IsPlainText bs
    by_number (Some n) e h = number_plain bs n (number-is 255 n bs e).0
    by_number None e h = cc

-- Days.
digit_byte : (x : ℕ) → x ≤ 9 → is_clean (48 + x) ≡ true
digit_byte x h = grind (arith, nat_tests)

clean_with : (b : ℕ) (bs : List ℕ) → is_clean b ≡ true → list_all is_clean bs ≡ true → list_all is_clean (b ∷ bs) ≡ true
clean_with b bs h k = and_both (is_clean b) (list_all is_clean bs) h k

two_clean : (n : ℕ) (bs : List ℕ) → n ≤ 99 → list_all is_clean bs ≡ true → list_all is_clean (two_digits n ++ bs) ≡ true
two_clean n bs h k = clean_with (48 + n / 10) ((48 + n % 10) ∷ bs) (digit_byte (n / 10) (omega arith))
    (clean_with (48 + n % 10) bs (digit_byte (n % 10) (omega arith)) k)

date_clean : (y m d : ℕ) → y ≤ 9999 → m ≤ 99 → d ≤ 99 → list_all is_clean (full_date y m d) ≡ true
date_clean y m d hy hm hd =
    two_clean (y / 100) (two_digits (y % 100) ++ 45 ∷ two_digits m ++ 45 ∷ two_digits d) (omega arith)
    (two_clean (y % 100) (45 ∷ two_digits m ++ 45 ∷ two_digits d) (omega arith)
    (clean_with 45 (two_digits m ++ 45 ∷ two_digits d) refl
    (two_clean m (45 ∷ two_digits d) hm
    (clean_with 45 (two_digits d) refl (two_clean d [] hd refl)))))

day_text_plain : (bs : List ℕ) (n : ℤ) → IsDayText bs n → IsPlainText bs
day_text_plain bs n h = subst IsPlainText (sym h.text_is)
    (clean_plain (full_date h.year h.month h.day) (omega arith)
    (date_clean h.year h.month h.day (omega (arith, ints, h.real.0.1)) (omega (arith, h.real.1.1))
    (omega (arith, h.real.2.1, days_in_month_bounds (pos h.year) h.month))))

day_plain : (bs : List ℕ) → is_some (day_named bs) ≡ true → IsPlainText bs
unfolding day_named
day_plain bs = by_number (day_in bs) refl
  where
    by_number : (o : Option ℤ) → day_in bs ≡ o → is_some (option_and_then day_at o) ≡ true → IsPlainText bs
    by_number (Some n) e h = day_text_plain bs n (day-text-found bs n e)
    by_number None e h = cc

-- The values of keywords that are not free.
text_plain : (kind : Takes) (bs : List ℕ) → form_fits kind forms.Quoted ≡ false → text_fits kind bs ≡ true → IsPlainText bs
text_plain takes.String bs e h = cc
text_plain takes.Any bs e h = cc
text_plain takes.Name bs e h = name_plain bs h
text_plain takes.Action bs e h = action_plain bs h
text_plain takes.Protocol bs e h = protocol_plain bs h
text_plain takes.IcmpType bs e h = icmp_plain bs h
text_plain takes.IcmpCode bs e h = code_plain bs h
text_plain takes.Opt bs e h = option_plain bs h
text_plain takes.Logging bs e h = logging_plain bs h
text_plain takes.Day bs e h = day_plain bs h

only_plain : (kind : Takes) (f : Form) → form_fits kind forms.Quoted ≡ false → form_fits kind f ≡ true → is_plain f ≡ true
only_plain takes.String f e h = cc
only_plain takes.Any f e h = cc
only_plain takes.Name f e h = h
only_plain takes.Action f e h = h
only_plain takes.Protocol f e h = h
only_plain takes.IcmpType f e h = h
only_plain takes.IcmpCode f e h = h
only_plain takes.Opt f e h = h
only_plain takes.Logging f e h = h
only_plain takes.Day f e h = h

pub value_printed : (kind : Takes) (w : Token) → form_fits kind forms.Quoted ≡ false → is_value kind w ≡ true → TextIs w.form w.text
value_printed kind w e h =
    subst (λ (v : Token). TextIs v.form v.text)
    (sym (plain_is w (only_plain kind w.form e (and_left (form_fits kind w.form) (text_fits kind w.text) h))))
    (text_plain kind w.text e (and_right (form_fits kind w.form) (text_fits kind w.text) h))

-- Keywords: the bytes before the last two.
abbrev front_of : List ℕ → List ℕ
front_of [] = []
front_of (a ∷ []) = []
front_of (a ∷ b ∷ []) = []
front_of (a ∷ b ∷ c ∷ bs) = a ∷ front_of (b ∷ c ∷ bs)

keyword_text : (text : List ℕ) → list_all is_word_byte (front_of text) ≡ true → has_colons (front_of text ++ codes ":") ≡ false
    → text ≡ front_of text ++ codes "::" → IsKeywordText text
keyword_text text h k e = record { front = front_of text; bytes_are = h; no_colons = k; text_is = e }

pub keyword_printed : (key : Keyword) → IsKeywordText (entry key).text
keyword_printed keywords.Comment = keyword_text (codes "comment::") refl refl refl
keyword_printed key = keyword_text (entry key).text refl refl refl
