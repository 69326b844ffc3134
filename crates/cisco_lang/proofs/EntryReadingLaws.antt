-- What is written of an entry is read again.
use Rattle.std.proofs.Common.{◌≡◌, ℕ, ◌+◌, ◌-◌, ◌*◌, ◌^◌, ◌<◌, ◌≤◌, Bool, true, false, ◌&&◌, ◌||◌, ◌==◌, List, ◌∷◌, ◌++◌, codes, Option, None, Some, unwrap_or, IfSome, is_none, is_some, inl, inr, refl, ap, sym, subst, ◌∙◌, append_assoc, arith}
use Rattle.std.specs.Fmt.{decimal}
use Rattle.std.specs.Int.Count.{leading_unique}
use Rattle.std.specs.Option.{option_map_or}
use Rattle.std.specs.Str.{bytes_eq}
use Rattle.std.proofs.lemmas.Bool.{and_parts, cases_eq, cond_both, cond-false, eqb-true}
use Rattle.std.proofs.lemmas.Nat.{pow_pos}
use Rattle.std.proofs.Math.Nat.{mul-le-mul_right, zero-mul}
use Rattle.acl_packet.specs.declared.addresses.Family.{Family}
use Rattle.acl_packet.specs.declared.addresses.Family.TheVariants.{V4, V6}
use Rattle.acl_packet.specs.declared.addresses.Prefix.{Prefix}
use Rattle.acl_packet.specs.Addresses.{width_of, size_of, IsPrefixOf, everywhere}
use Rattle.acl_packet.specs.Decimals.{number_in, digits_in}
use Rattle.acl_packet.specs.Packets.{icmp_of}
use Rattle.acl_packet.proofs.DecimalLaws.{number-again}
use Rattle.acl_packet.proofs.PrefixLaws.{first_fits, mask_fits}
use Rattle.acl_text.specs.Ipv4.{ipv4_in}
use Rattle.acl_text.specs.Ipv6.{ipv6_in, side_in, groups_in, group_in, last_in, whole_in, short_in}
use Rattle.acl_text.specs.AddressTexts.{address_in, address_text, spelled_prefix_in, prefix_in, full_in, block_in, prefix_text, wildcard_text}
use Rattle.acl_text.proofs.AddressLaws.{address-again, spelled-again}
use Rattle.acl_text.proofs.OptionStepLaws.{not_word}
use Rattle.acl_rows.specs.PortRanges.{IsPortRange}
use Rattle.acl_rows.specs.RuleParts.{log_words}
use Rattle.cisco_lang.specs.declared.documents.Entry.{Entry}
use Rattle.cisco_lang.specs.declared.documents.Flags.{Flags}
use Rattle.cisco_lang.specs.declared.documents.Flags.TheVariants.{Established, Rst, SynNotAck}
use Rattle.cisco_lang.specs.Documents.{code_fits, flags_fit, icmp_fits, IsEntry, ports_fit, type_fits}
use Rattle.cisco_lang.specs.Texts.{action_word, proto_word, masked_words, address_words, ports_words, number_words, icmp_words, flags_words, end_words, entry_words}
use Rattle.cisco_lang.specs.AddressReading.{next_word, take_address, wildcard_length, take_masked, take_place}
use Rattle.cisco_lang.specs.ReadingSteps.{proto_in, take_port, take_ports, take_number, take_flags, entry_in}

-- ---- numbers and addresses are no keywords

-- none of the words that begin an address or ports
record IsPlain (w : List ℕ) : Type 0 where
  any : bytes_eq w (codes "any") ≡ false
  host : bytes_eq w (codes "host") ≡ false
  eq : bytes_eq w (codes "eq") ≡ false
  range : bytes_eq w (codes "range") ≡ false

plain : {A : Type 0} (f : List ℕ → Option A) (w : List ℕ) (x : A) → f w ≡ Some x
    → f (codes "any") ≡ None → f (codes "host") ≡ None → f (codes "eq") ≡ None → f (codes "range") ≡ None → IsPlain w
plain f w x h a b c d = record {
  any = not_word f w (codes "any") x h a;
  host = not_word f w (codes "host") x h b;
  eq = not_word f w (codes "eq") x h c;
  range = not_word f w (codes "range") x h d;
}

address_plain : (a : ℕ) → a < 2 ^ 32 → IsPlain (address_text V4 a)
unfolding address_in ipv4_in number_in digits_in
address_plain a h = plain (address_in V4) (address_text V4 a) a (address-again V4 a h) refl refl refl refl

prefix_plain : (p : Prefix) → IsPrefixOf V6 p → IsPlain (prefix_text p)
unfolding spelled_prefix_in prefix_in full_in block_in ipv4_in ipv6_in side_in groups_in group_in last_in whole_in short_in number_in digits_in
prefix_plain p h = plain (spelled_prefix_in V6) (prefix_text p) p (spelled-again V6 p h.1 h.0) refl refl refl refl

number_plain : (n : ℕ) → n ≤ 255 → IsPlain (decimal n)
unfolding number_in digits_in
number_plain n h = plain (number_in 255) (decimal n) n (number-again 255 n (omega (arith, h)) h) refl refl refl refl

-- words that begin no ports
abbrev pub NoPorts : List (List ℕ) → Type 0
NoPorts words = (bytes_eq (next_word words).0 (codes "eq") ≡ false) × (bytes_eq (next_word words).0 (codes "range") ≡ false)

-- ---- action and protocol

pub action_again : (b : Bool) → bytes_eq (action_word b) (codes "permit") ≡ b
action_again true = refl
action_again false = refl

proto_again : (f : Family) (o : Option ℕ) → IfSome o (λ n. (1 ≤ n) × (n ≤ 255)) → proto_in f (proto_word f o) ≡ o
unfolding proto_word proto_in number_in digits_in
proto_again V4 None h = refl
proto_again V6 None h = refl
proto_again f (Some n) h =
    let again : number_in 255 (decimal n) ≡ Some n = number-again 255 n (omega (arith, h.1)) h.1 in
    let other = λ (w : List ℕ) (k : number_in 255 w ≡ None). not_word (number_in 255) (decimal n) w n again k in
    let P : List ℕ → Type 0 = λ w. proto_in f w ≡ Some n in
    cond_both (n == 6) _ _ P (λ e. ap Some (sym (eqb-true n 6 e)))
    (λ _. cond_both (n == 17) _ _ P (λ e. ap Some (sym (eqb-true n 17 e)))
    (λ _. cond_both (n == icmp_of f) _ _ P (λ e. ap Some (sym (eqb-true n (icmp_of f) e)))
    (λ _. cond-false _ _ _ (other (codes "tcp") refl) ∙ cond-false _ _ _ (other (codes "udp") refl) ∙ cond-false _ _ _ (other (codes "icmp") refl) ∙ again)))

-- ---- places

-- a prefix by its three parts
same_prefix : (p : Prefix) (f : Family) (a l : ℕ) → p.family ≡ f → p.first ≡ a → p.len ≡ l → record { family = f; first = a; len = l } ≡ p
same_prefix p f a l e g h = rw (← e, ← g, ← h)

-- a prefix of length 0 begins at 0
first_zero : (n first size : ℕ) → first ≡ n * size → first < size → first ≡ 0
first_zero n first size e h = elim (cases_eq n 0) [
  | inl z ↦ e ∙ ap (λ k. k * size) z ∙ zero-mul size
  | inr z ↦
      let m = mul-le-mul_right {m = 1} {n = n} size (omega arith) in
      absurd (omega arith)
]

whole_is : (f : Family) (p : Prefix) → IsPrefixOf f p → p.len ≡ 0 → everywhere f ≡ p
whole_is f p h e =
    let all : width_of p.family - p.len ≡ width_of p.family = omega (arith, e) in
    let size : size_of p ≡ 2 ^ width_of p.family = ap (λ k. 2 ^ k) all in
    let first = first_zero h.1.aligned.0 p.first (2 ^ width_of p.family) (h.1.aligned.1 ∙ ap (λ s. h.1.aligned.0 * s) size) h.1.first_fits in
    same_prefix p f 0 0 h.0 first e

address_read : (f : Family) (a : ℕ) (rest : List (List ℕ)) → a < 2 ^ width_of f → take_address f (address_text f a ∷ rest) ≡ (a, rest)
unfolding take_address next_word
address_read f a rest h = ap (λ o. (unwrap_or o 0, rest)) (address-again f a h)

length_again : (len : ℕ) → len ≤ 32 → wildcard_length (2 ^ (32 - len) - 1) ≡ len
length_again len h =
    let some = pow_pos (32 - len) in
    let zeros = leading_unique 128 (2 ^ (32 - len) - 1) (96 + len) (32 - len) (omega arith) (omega arith) (omega arith) in
    omega (arith, zeros)

masked_read : (f : Family) (p : Prefix) (rest : List (List ℕ)) → IsPrefixOf f p → take_masked f (masked_words f p ++ rest) ≡ (p, rest)
unfolding take_masked next_word wildcard_text
masked_read V4 p rest h =
    let narrow : p.len ≤ 32 = let P : Family → Type 0 = λ g. p.len ≤ width_of g in subst P h.0 h.1.len_fits in
    let first = address_read V4 p.first (wildcard_text p.len ∷ rest) (first_fits V4 p h) in
    let wildcard = address_read V4 (2 ^ (32 - p.len) - 1) rest (mask_fits p.len) in
    rw (first, wildcard, length_again p.len narrow) (ap (λ q. (q, rest)) (same_prefix p V4 p.first p.len h.0 refl refl))
masked_read V6 p rest h = ap (λ o. (unwrap_or o (everywhere V6), rest)) (spelled-again V6 p h.1 h.0)

masked_plain : (f : Family) (p : Prefix) (rest : List (List ℕ)) → IsPrefixOf f p → IsPlain (next_word (masked_words f p ++ rest)).0
unfolding next_word
masked_plain V4 p rest h = address_plain p.first (first_fits V4 p h)
masked_plain V6 p rest h = prefix_plain p h

pub place_read : (f : Family) (p : Prefix) (rest : List (List ℕ)) → IsPrefixOf f p
    → (take_place f (address_words f p ++ rest) ≡ (p, rest)) × NoPorts (address_words f p ++ rest)
unfolding address_words take_place next_word
place_read f p rest h =
    let P : List (List ℕ) → Type 0 = λ words. (take_place f (words ++ rest) ≡ (p, rest)) × NoPorts (words ++ rest) in
    let w = masked_plain f p rest h in
    cond_both (p.len == 0) _ _ P (λ e. (ap (λ q. (q, rest)) (whole_is f p h (eqb-true p.len 0 e)), (refl, refl)))
    (λ _. cond_both (p.len == width_of f) _ _ P
    (λ e. (rw (address_read f p.first rest (first_fits f p h)) (ap (λ q. (q, rest)) (same_prefix p f p.first (width_of f) h.0 refl (eqb-true p.len (width_of f) e))), (refl, refl)))
    (λ _. (cond-false _ _ _ w.any ∙ cond-false _ _ _ w.host ∙ masked_read f p rest h, (w.eq, w.range))))

-- ---- ports

port_read : (n : ℕ) (rest : List (List ℕ)) → n < 65536 → take_port (decimal n ∷ rest) ≡ (n, rest)
unfolding take_port next_word
port_read n rest h = ap (λ o. (unwrap_or o 0, rest)) (number-again 65535 n (omega (arith, h)) (omega (arith, h)))

ports_read : (o : Option (ℕ × ℕ)) (rest : List (List ℕ)) → IfSome o IsPortRange → NoPorts rest → take_ports (ports_words o ++ rest) ≡ (o, rest)
unfolding ports_words take_ports next_word
ports_read None rest h n = cond-false _ _ _ n.0 ∙ cond-false _ _ _ n.1
ports_read (Some (low, high)) rest h n =
    let first = λ (words : List (List ℕ)). port_read low words (omega (arith, h.0, h.1)) in
    cond_both (low == high) _ _ (λ words. take_ports (words ++ rest) ≡ (Some (low, high), rest))
    (λ e. rw (first rest) (ap (λ m. (Some (low, m), rest)) (eqb-true low high e)))
    (λ _. rw (first (decimal high ∷ rest), port_read high rest h.1))

-- ---- tests

-- words that begin neither ports nor a number
abbrev NoNumber : ℕ → List (List ℕ) → Type 0
NoNumber most words = (number_in most (next_word words).0 ≡ None) × NoPorts words

number_read : (most : ℕ) (o : Option ℕ) (rest : List (List ℕ)) → most ≤ 255 → IfSome o (λ n. n ≤ most) → (o ≡ None → NoNumber most rest)
    → (take_number most (number_words o ++ rest) ≡ (o, rest)) × NoPorts (number_words o ++ rest)
unfolding number_words take_number next_word
number_read most None rest l h k =
    let none = k refl in
    (ap (λ o. option_map_or {U = Option ℕ × List (List ℕ)} (λ m. (Some m, (next_word rest).1)) o (None, rest)) none.0, none.1)
number_read most (Some n) rest l h k =
    let w = number_plain n (omega (arith, h)) in (
      ap (λ o. option_map_or {U = Option ℕ × List (List ℕ)} (λ m. (Some m, rest)) o (None, decimal n ∷ rest)) (number-again most n (omega (arith, h)) h),
      (w.eq, w.range),
    )

-- neither flags nor a log begin so
last_plain : (most : ℕ) (flags : Option Flags) (log : Bool) → NoNumber most (flags_words flags ++ log_words log)
unfolding flags_words log_words next_word number_in digits_in
last_plain most None true = (refl, (refl, refl))
last_plain most None false = (refl, (refl, refl))
last_plain most (Some Established) log = (refl, (refl, refl))
last_plain most (Some Rst) log = (refl, (refl, refl))
last_plain most (Some SynNotAck) log = (refl, (refl, refl))

-- where no type is written, no code is
no_code : (t c : Option ℕ) (flags : Option Flags) (log : Bool) → is_none c || is_some t ≡ true
    → t ≡ None → NoNumber 254 (number_words c ++ (flags_words flags ++ log_words log))
unfolding number_words
no_code None None flags log h e = last_plain 254 flags log
no_code None (Some n) flags log h e = absurd cc
no_code (Some n) c flags log h e = absurd cc

flags_read : (o : Option Flags) (log : Bool) → take_flags (flags_words o ++ log_words log) ≡ (o, log_words log)
unfolding flags_words log_words take_flags next_word
flags_read None true = refl
flags_read None false = refl
flags_read (Some Established) log = refl
flags_read (Some Rst) log = refl
flags_read (Some SynNotAck) log = refl

pub log_read : (b : Bool) → bytes_eq (next_word (log_words b)).0 (codes "log") ≡ b
unfolding log_words next_word
log_read true = refl
log_read false = refl

-- ---- entries

pub entry_again : (f : Family) (e : Entry) → IsEntry f e → entry_in f (entry_words f e) ≡ e
unfolding entry_in entry_words end_words icmp_words next_word
entry_again f e h =
    let last = flags_words e.flags ++ log_words e.log in
    let coded = number_words e.icode ++ last in
    let tests = number_words e.itype ++ coded in
    let ported = ports_words e.dport ++ tests in
    let destination = address_words f e.dst ++ ported in
    let icmp = (and_parts (ports_fit e) (icmp_fits f e && flags_fit f e) h.fit).1 in
    let typed = (and_parts (icmp_fits f e) (flags_fit f e) icmp).0 in
    let code = (and_parts (type_fits f e) (code_fits e) typed).1 in
    let icode = number_read 255 e.icode last (omega arith) h.icmp_code (λ _. last_plain 255 e.flags e.log) in
    let itype = number_read 254 e.itype coded (omega arith) h.icmp_type (no_code e.itype e.icode e.flags e.log code) in
    let dport = ports_read e.dport tests h.destination_ports itype.1 in
    let dst = place_read f e.dst ported h.destination in
    let sport = ports_read e.sport destination h.source_ports dst.1 in
    let src = place_read f e.src (ports_words e.sport ++ destination) h.source in
    simp (append_assoc, action_again e.permit, proto_again f e.proto h.protocol, src.0, sport, dst.0, dport, itype.0, icode.0, flags_read e.flags e.log, log_read e.log)
