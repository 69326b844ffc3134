-- Each row of a document can be found again in its text.
use Rattle.std.proofs.Common.{◌≡◌, ℕ, suc, ◌^◌, ◌<◌, ◌≤◌, Bool, true, false, not, ◌==◌, ◌&&◌, ℤ, pos, negsuc, List, [], ◌∷◌, ◌++◌, map, flat_map, codes, Option, None, Some, IfSome, refl, ap, ◌∙◌, arith}
use Rattle.std.specs.Char.{is_ascii_digit}
use Rattle.std.specs.Fmt.{decimal, signed_decimal}
use Rattle.std.specs.List.{AllByRecursion}
use Rattle.std.specs.Str.{bytes_eq}
use Rattle.std.proofs.lemmas.Bool.{cond_both, ltb-true, or_from}
use Rattle.acl_packet.specs.declared.addresses.Family.{Family}
use Rattle.acl_packet.specs.declared.addresses.Family.TheVariants.{V4, V6}
use Rattle.acl_packet.specs.declared.addresses.Families.{Families}
use Rattle.acl_packet.specs.declared.addresses.Families.TheVariants.{Inet, Inet6, Mixed}
use Rattle.acl_packet.specs.declared.addresses.Prefix.{Prefix}
use Rattle.acl_packet.specs.declared.filtering.Hook.{Hook}
use Rattle.acl_packet.specs.declared.filtering.Hook.TheVariants.{Input, Output, Forward}
use Rattle.acl_packet.specs.declared.filtering.Verdict.{Verdict}
use Rattle.acl_packet.specs.declared.filtering.Verdict.TheVariants.{Accept, Deny, Reject, Reset, Left}
use Rattle.acl_text.specs.AddressTexts.{prefix_text}
use Rattle.acl_text.specs.Cuts.{has_byte}
use Rattle.acl_text.proofs.ListLaws.{all_append}
use Rattle.acl_text.proofs.DigitLaws.{decimal-lacks}
use Rattle.acl_rows.specs.PortRanges.{IsPortRange}
use Rattle.acl_rows.specs.Rows.{row, text_of_rows}
use Rattle.acl_rows.specs.RowSteps.{begins, IsRow, IsWord, AreWords, AreRows}
use Rattle.acl_rows.proofs.ListLaws.{all_flat, all_map}
use Rattle.acl_rows.proofs.PortRangeLaws.{range_word}
use Rattle.acl_rows.proofs.RowLaws.{spaced_row}
use Rattle.acl_rows.proofs.WordLaws.{word, decimal_word, prefix_word, text_words, joined_word, both_words, either_word, log_safe}
use Rattle.acl_rows.specs.RuleParts.{IsAddresses, log_words}
use Rattle.nft_lang.specs.declared.documents.Section.{Section}
use Rattle.nft_lang.specs.declared.documents.Item.{Item}
use Rattle.nft_lang.specs.declared.documents.Item.TheVariants.{Remark, Rule as ARule}
use Rattle.nft_lang.specs.declared.documents.Rule.{Rule}
use Rattle.nft_lang.specs.declared.documents.Flags.{Flags}
use Rattle.nft_lang.specs.declared.documents.Flags.TheVariants.{Rst, SynNotAck}
use Rattle.nft_lang.specs.Documents.{IsType, IsCode, IsRule, IsItem, IsSection, fits_i32, table_name}
use Rattle.nft_lang.specs.Texts.{with_commas, set_words, ports_word, family_words, proto_words, address_word, icmp_word, port_word, flags_words, state_words, verdict_words, addresses_words, ports_words, icmp_words, ending_words, rule_words, item_rows, hook_word, families_word, table_word, default_word, priority_word, head_rows, end_rows, section_rows}

-- ---- words that begin a rule, and no remark and no chain

abbrev pub plain_word : List ℕ → Bool
plain_word [] = false
plain_word (b ∷ bs) = not (bytes_eq (b ∷ bs) (codes "#")) && not (bytes_eq (b ∷ bs) (codes "type"))

-- no words, or a first that is plain
abbrev is_plain : List (List ℕ) → Bool
is_plain [] = true
is_plain (w ∷ words) = plain_word w

pub record BeginsRule (words : List (List ℕ)) : Type 0 where
  pub first : List ℕ
  pub rest : List (List ℕ)
  pub is : words ≡ first ∷ rest
  pub plain : plain_word first ≡ true

behind_part : (xs ys : List (List ℕ)) → is_plain xs ≡ true → BeginsRule ys → BeginsRule (xs ++ ys)
behind_part [] ys h k = k
behind_part (x ∷ xs) ys h k = record { first = x; rest = xs ++ ys; is = refl; plain = h }

both_plain : (xs ys : List (List ℕ)) → is_plain xs ≡ true → is_plain ys ≡ true → is_plain (xs ++ ys) ≡ true
both_plain [] ys h k = k
both_plain (x ∷ xs) ys h k = h

set_plain : (front key : List ℕ) (words : List (List ℕ)) → plain_word front ≡ true → is_plain (set_words front key words) ≡ true
unfolding set_words
set_plain front key [] h = refl
set_plain front key (w ∷ words) h = h

family_plain : (fs : Families) (f : Family) → is_plain (family_words fs f) ≡ true
unfolding family_words
family_plain Inet f = refl
family_plain Inet6 f = refl
family_plain Mixed f = refl

proto_plain : (o : Option ℕ) → is_plain (proto_words o) ≡ true
unfolding proto_words
proto_plain None = refl
proto_plain (Some n) = refl

address_plain : (f : Family) → plain_word (address_word f) ≡ true
address_plain V4 = refl
address_plain V6 = refl

icmp_plain : (f : Family) → plain_word (icmp_word f) ≡ true
icmp_plain V4 = refl
icmp_plain V6 = refl

port_plain : (o : Option ℕ) → plain_word (port_word o) ≡ true
unfolding port_word
port_plain None = refl
port_plain (Some n) =
    let P : List ℕ → Type 0 = λ w. plain_word w ≡ true in
    cond_both (n == 17) _ _ P (λ _. refl) (λ _. cond_both (n == 132) _ _ P (λ _. refl) (λ _. refl))

flags_plain : (o : Option Flags) → is_plain (flags_words o) ≡ true
unfolding flags_words
flags_plain None = refl
flags_plain (Some Rst) = refl
flags_plain (Some SynNotAck) = refl

state_plain : (b : Bool) → is_plain (state_words b) ≡ true
unfolding state_words
state_plain true = refl
state_plain false = refl

log_plain : (b : Bool) → is_plain (log_words b) ≡ true
unfolding log_words
log_plain true = refl
log_plain false = refl

verdict_begins : (v : Verdict) → BeginsRule (verdict_words v)
unfolding verdict_words
verdict_begins Accept = record { first = codes "accept"; rest = []; is = refl; plain = refl }
verdict_begins Deny = record { first = codes "drop"; rest = []; is = refl; plain = refl }
verdict_begins Reject = record { first = codes "reject"; rest = []; is = refl; plain = refl }
verdict_begins Reset = record { first = codes "reject"; rest = codes "with" ∷ codes "tcp" ∷ codes "reset" ∷ []; is = refl; plain = refl }
verdict_begins Left = record { first = codes "drop"; rest = []; is = refl; plain = refl }

pub rule_begins : (fs : Families) (r : Rule) → BeginsRule (rule_words fs r)
unfolding rule_words addresses_words ports_words icmp_words ending_words
rule_begins fs r =
    search (behind_part, both_plain, set_plain, family_plain, proto_plain, address_plain, port_plain, icmp_plain, flags_plain, state_plain, log_plain, verdict_begins) depth 12

rule_starts : (words : List (List ℕ)) → BeginsRule words → begins words ≡ true
rule_starts words b = ap begins b.is ∙ plain_starts b.first b.rest b.plain where
  plain_starts : (w : List ℕ) (ws : List (List ℕ)) → plain_word w ≡ true → begins (w ∷ ws) ≡ true
  plain_starts [] ws h = absurd cc
  plain_starts (c ∷ cs) ws h = refl

-- the last space of the indent stands before the first word
pub row_begun : (fs : Families) (r : Rule) → text_of_rows (row 7 ([] ∷ rule_words fs r) ∷ []) ≡ text_of_rows (item_rows fs (ARule r))
unfolding item_rows
row_begun fs r = ap (λ t. t ++ []) (spaced_row 7 (rule_words fs r) (rule_starts (rule_words fs r) (rule_begins fs r)))

-- ---- sets

commas_safe : (words : List (List ℕ)) → AreWords words → AreWords (with_commas words)
unfolding with_commas
commas_safe [] h = tt
commas_safe (w ∷ []) h = h
commas_safe (w ∷ v ∷ words) h = (joined_word w (codes ",") h.0 (search word), commas_safe (v ∷ words) h.1)

set_safe : {A : Type 0} (P : A → Type 0) (front key : List ℕ) (w : A → List ℕ) → IsWord front → IsWord key → ((x : A) → P x → IsWord (w x))
    → (xs : List A) → AllByRecursion P xs → AreWords (set_words front key (map w xs))
unfolding set_words
set_safe P front key w f k each [] h = tt
set_safe P front key w f k each (x ∷ xs) h =
    search (both_words, word, f, k, commas_safe (map w (x ∷ xs)) (all_map P IsWord w each (x ∷ xs) h))

ports_safe : (ports : ℕ × ℕ) → IsPortRange ports → IsWord (ports_word ports)
ports_safe ports h = range_word 45 ports h refl refl

type_safe : (n : ℕ) → IsType n → IsWord (decimal n)
type_safe n h = decimal_word n (omega (arith, h))

code_safe : (n : ℕ) → IsCode n → IsWord (decimal n)
code_safe n h = decimal_word n (omega (arith, h))

-- ---- rules

family_safe : (fs : Families) (f : Family) → AreWords (family_words fs f)
unfolding family_words
family_safe Inet f = tt
family_safe Inet6 f = tt
family_safe Mixed V4 = search word
family_safe Mixed V6 = search word

proto_safe : (o : Option ℕ) → IfSome o (λ n. (1 ≤ n) × (n ≤ 255)) → AreWords (proto_words o)
unfolding proto_words
proto_safe None h = tt
proto_safe (Some n) h = search (word, decimal_word n (omega (arith, h.1)))

address_safe : (f : Family) → IsWord (address_word f)
address_safe V4 = search word
address_safe V6 = search word

icmp_safe : (f : Family) → IsWord (icmp_word f)
icmp_safe V4 = search word
icmp_safe V6 = search word

port_safe : (o : Option ℕ) → IsWord (port_word o)
unfolding port_word
port_safe None = search word
port_safe (Some n) = search (either_word, word)

flags_safe : (o : Option Flags) → AreWords (flags_words o)
unfolding flags_words
flags_safe None = tt
flags_safe (Some Rst) = search word
flags_safe (Some SynNotAck) = search word

state_safe : (b : Bool) → AreWords (state_words b)
unfolding state_words
state_safe true = search word
state_safe false = tt

verdict_safe : (v : Verdict) → AreWords (verdict_words v)
unfolding verdict_words
verdict_safe Accept = search word
verdict_safe Deny = search word
verdict_safe Reject = search word
verdict_safe Reset = search word
verdict_safe Left = search word

addresses_safe : (fs : Families) (r : Rule) → IsRule fs r → AreWords (addresses_words r.family r.src r.dst)
unfolding addresses_words
addresses_safe fs r h =
    let each : (p : Prefix) → IsAddresses r.family p → IsWord (prefix_text p) = λ p k. prefix_word p k.0.1 in
    let front = address_safe r.family in
    both_words _ _
    (set_safe (IsAddresses r.family) (address_word r.family) (codes "saddr") prefix_text front (search word) each r.src h.sources.each)
    (set_safe (IsAddresses r.family) (address_word r.family) (codes "daddr") prefix_text front (search word) each r.dst h.destinations.each)

all_ports_safe : (fs : Families) (r : Rule) → IsRule fs r → AreWords (ports_words r.proto r.sports r.dports)
unfolding ports_words
all_ports_safe fs r h =
    let front = port_safe r.proto in
    both_words _ _
    (set_safe IsPortRange (port_word r.proto) (codes "sport") ports_word front (search word) ports_safe r.sports h.source_ports.each)
    (set_safe IsPortRange (port_word r.proto) (codes "dport") ports_word front (search word) ports_safe r.dports h.destination_ports.each)

all_icmp_safe : (fs : Families) (r : Rule) → IsRule fs r → AreWords (icmp_words r.family r.itypes r.icodes)
unfolding icmp_words
all_icmp_safe fs r h =
    let front = icmp_safe r.family in
    let written : ℕ → List ℕ = λ n. decimal n in
    both_words _ _
    (set_safe IsType (icmp_word r.family) (codes "type") written front (search word) type_safe r.itypes h.icmp_types.each)
    (set_safe IsCode (icmp_word r.family) (codes "code") written front (search word) code_safe r.icodes h.icmp_codes.each)

rule_safe : (fs : Families) (r : Rule) → IsRule fs r → AreWords (rule_words fs r)
unfolding rule_words ending_words
rule_safe fs r h =
    search (both_words, family_safe, proto_safe r.proto h.protocol, addresses_safe fs r h, all_ports_safe fs r h, all_icmp_safe fs r h, flags_safe, state_safe, log_safe, verdict_safe) depth 9

-- ---- rows

pub item_safe : (fs : Families) (i : Item) → IsItem fs i → AreRows (item_rows fs i)
unfolding item_rows
item_safe fs (Remark text) h = search (word, text_words text h)
item_safe fs (ARule r) h = (record { start = rule_starts (rule_words fs r) (rule_begins fs r); words = rule_safe fs r h }, tt)

hook_safe : (h : Hook) → IsWord (hook_word h)
hook_safe Input = search word
hook_safe Output = search word
hook_safe Forward = search word

families_safe : (fs : Families) → IsWord (families_word fs)
families_safe Inet = search word
families_safe Inet6 = search word
families_safe Mixed = search word

table_safe : (fs : Families) → IsWord (table_word fs)
table_safe Inet = search word
table_safe Inet6 = search word
table_safe Mixed = search word

name_safe : (n : ℕ) → n < 2 ^ 32 → IsWord (table_name n)
name_safe n h = joined_word (codes "aclgen_") (decimal n) (search word) (decimal_word n (omega (arith, h)))

default_safe : (b : Bool) → IsWord (default_word b)
default_safe true = search word
default_safe false = search word

-- a byte that no priority has
pub signed_lacks : (c : ℕ) (p : ℤ) → fits_i32 p ≡ true → is_ascii_digit c ≡ false → (45 == c) ≡ false → has_byte c (signed_decimal p) ≡ false
signed_lacks c (pos n) h d m = let small = ltb-true n (2 ^ 31) h in decimal-lacks c n (omega (arith, small)) d
signed_lacks c (negsuc n) h d m =
    let small = ltb-true n (2 ^ 31) h in
    or_from (45 == c) (has_byte c (decimal (suc n))) m (decimal-lacks c (suc n) (omega (arith, small)) d)

priority_safe : (p : ℤ) → fits_i32 p ≡ true → IsWord (priority_word p)
priority_safe p h =
    joined_word (signed_decimal p) (codes ";") (word (signed_decimal p) (signed_lacks 32 p h refl refl) (signed_lacks 10 p h refl refl)) (search word)

pub head_safe : (hook : Hook) (families : Families) (number : ℕ) (priority : ℤ) (accept : Bool) → number < 2 ^ 32 → fits_i32 priority ≡ true
    → AreRows (head_rows hook families number priority accept)
unfolding head_rows
head_safe hook families number priority accept small fits =
    search (word, hook_safe hook, families_safe families, table_safe families, name_safe number small, priority_safe priority fits, default_safe accept)

end_safe : AreRows end_rows
end_safe = search word

section_safe : (s : Section) → IsSection s → AreRows (section_rows s)
unfolding section_rows
section_safe s h =
    let items = all_flat (IsItem s.families) IsRow (item_rows s.families) (item_safe s.families) s.items h.items in
    all_append IsRow (head_rows s.hook s.families s.number s.priority s.accept) _
    (head_safe s.hook s.families s.number s.priority s.accept h.number h.priority)
    (all_append IsRow (flat_map (item_rows s.families) s.items) end_rows items end_safe)

pub sections_safe : (doc : List Section) → AllByRecursion IsSection doc → AllByRecursion IsRow (flat_map section_rows doc)
sections_safe doc h = all_flat IsSection IsRow section_rows section_safe doc h
