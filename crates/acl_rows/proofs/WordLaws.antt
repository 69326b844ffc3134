-- What is a word of a row: numbers, addresses, prefixes, names, and such that are put together. A free text is words.
use Rattle.std.proofs.Common.{◌≡◌, ℕ, ◌-◌, ◌^◌, ◌<◌, Bool, true, false, cond, ◌==◌, ◌&&◌, nat_le, List, [], ◌∷◌, ◌++◌, length, refl}
use Rattle.std.specs.Fmt.{decimal}
use Rattle.std.specs.List.{list_all, AllByRecursion, onto_first}
use Rattle.std.proofs.lemmas.Bool.{and_parts, cond_both, or_parts, or_from}
use Rattle.acl_packet.specs.declared.addresses.Family.{Family}
use Rattle.acl_packet.specs.declared.addresses.Family.TheVariants.{V4}
use Rattle.acl_packet.specs.declared.addresses.Prefix.{Prefix}
use Rattle.acl_packet.specs.Addresses.{width_of, IsPrefix}
use Rattle.acl_packet.proofs.PrefixLaws.{mask_fits}
use Rattle.acl_text.specs.AddressTexts.{address_text, prefix_text, wildcard_text}
use Rattle.acl_text.specs.Cuts.{has_byte}
use Rattle.acl_text.specs.Names.{is_letter, is_name_byte, is_name, is_filter_name, is_safe_byte, is_safe_text, single_spaced}
use Rattle.acl_text.proofs.AddressLaws.{address-lacks, prefix-lacks}
use Rattle.acl_text.proofs.CutLaws.{has-append, has-not}
use Rattle.acl_text.proofs.DigitLaws.{decimal-lacks}
use Rattle.acl_text.proofs.ListLaws.{all_append}
use Rattle.acl_text.proofs.Printed.{IsForeign}
use Rattle.acl_rows.specs.Rows.{is_space, words_in}
use Rattle.acl_rows.specs.RowSteps.{IsWord, AreWords}
use Rattle.acl_rows.specs.RuleParts.{log_words}

-- of a literal: give `refl` twice
pub word : (w : List ℕ) → has_byte 32 w ≡ false → has_byte 10 w ≡ false → IsWord w
word w h k = record { no_space = h; no_feed = k }

pub joined_word : (v w : List ℕ) → IsWord v → IsWord w → IsWord (v ++ w)
joined_word v w h k = word (v ++ w) (has-append 32 v w h.no_space k.no_space) (has-append 10 v w h.no_feed k.no_feed)

pub either_word : (t : Bool) (v w : List ℕ) → IsWord v → IsWord w → IsWord (cond t v w)
either_word t v w h k = cond_both t v w IsWord (λ _. h) (λ _. k)

pub both_words : (vs ws : List (List ℕ)) → AreWords vs → AreWords ws → AreWords (vs ++ ws)
both_words vs ws h k = all_append IsWord vs ws h k

pub either_words : (t : Bool) (vs ws : List (List ℕ)) → AreWords vs → AreWords ws → AreWords (cond t vs ws)
either_words t vs ws h k = cond_both t vs ws AreWords (λ _. h) (λ _. k)

pub log_safe : (b : Bool) → AreWords (log_words b)
unfolding log_words
log_safe true = search word
log_safe false = tt

pub decimal_word : (n : ℕ) → n < 2 ^ 128 → IsWord (decimal n)
decimal_word n h = word (decimal n) (decimal-lacks 32 n h refl) (decimal-lacks 10 n h refl)

space_foreign : IsForeign 32
space_foreign = record { hex = refl; digit = refl; dot = refl; colon = refl }

feed_foreign : IsForeign 10
feed_foreign = record { hex = refl; digit = refl; dot = refl; colon = refl }

pub address_word : (f : Family) (a : ℕ) → a < 2 ^ width_of f → IsWord (address_text f a)
address_word f a h = word (address_text f a) (address-lacks f 32 a h space_foreign) (address-lacks f 10 a h feed_foreign)

pub wildcard_word : (len : ℕ) → IsWord (wildcard_text len)
unfolding wildcard_text
wildcard_word len = address_word V4 (2 ^ (32 - len) - 1) (mask_fits len)

pub prefix_word : (p : Prefix) → IsPrefix p → IsWord (prefix_text p)
prefix_word p h = word (prefix_text p) (prefix-lacks 32 p h space_foreign refl) (prefix-lacks 10 p h feed_foreign refl)

pub name_word : (name : List ℕ) → is_filter_name name ≡ true → IsWord name
name_word [] h = word [] refl refl
name_word (b ∷ bs) h =
    let rest = and_parts (is_letter b) (nat_le (length (b ∷ bs)) 64 && list_all is_name_byte (b ∷ bs)) h in
    let bytes = (and_parts (nat_le (length (b ∷ bs)) 64) (list_all is_name_byte (b ∷ bs)) rest.1).1 in
    word (b ∷ bs) (has-not is_name_byte 32 (b ∷ bs) bytes refl) (has-not is_name_byte 10 (b ∷ bs) bytes refl)

-- of a name with any first byte
pub plain_word : (name : List ℕ) → is_name name ≡ true → IsWord name
plain_word [] h = word [] refl refl
plain_word (b ∷ bs) h =
    let bytes = (and_parts (nat_le (length (b ∷ bs)) 128) (list_all is_name_byte (b ∷ bs)) h).1 in
    word (b ∷ bs) (has-not is_name_byte 32 (b ∷ bs) bytes refl) (has-not is_name_byte 10 (b ∷ bs) bytes refl)

-- the words of a text without a line feed
parts_safe : (t : Bool) (b : ℕ) (parts : List (List ℕ)) → is_space b ≡ t → (b == 10) ≡ false → AllByRecursion IsWord parts
    → AllByRecursion IsWord (cond t ([] ∷ parts) (onto_first b parts))
parts_safe true b parts e n h = (word [] refl refl, h)
parts_safe false b [] e n h = (word (b ∷ []) (or_from (b == 32) false e refl) (or_from (b == 10) false n refl), tt)
parts_safe false b (w ∷ parts) e n h =
    (word (b ∷ w) (or_from (b == 32) (has_byte 32 w) e h.0.no_space) (or_from (b == 10) (has_byte 10 w) n h.0.no_feed), h.1)

cut_words : (text : List ℕ) → has_byte 10 text ≡ false → AllByRecursion IsWord (words_in text)
cut_words [] h = (word [] refl refl, tt)
cut_words (b ∷ bs) h =
    let p = or_parts (b == 10) (has_byte 10 bs) h in
    parts_safe (is_space b) b (words_in bs) refl p.0 (cut_words bs p.1)

pub text_words : (text : List ℕ) → is_safe_text text ≡ true → AllByRecursion IsWord (words_in text)
text_words text h =
    let rest = and_parts (nat_le (length text) 128) (list_all is_safe_byte text && single_spaced true text) h in
    let bytes = (and_parts (list_all is_safe_byte text) (single_spaced true text) rest.1).0 in
    cut_words text (has-not is_safe_byte 10 text bytes refl)
