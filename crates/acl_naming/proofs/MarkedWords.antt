-- Names and prefixes: a name has no `.` (46) or `:` (58), and a prefix has one of them.
use Rattle.std.proofs.Common.{◌≡◌, ℕ, true, false, ◌||◌, ◌==◌, nat_le, List, [], ◌∷◌, length, Option, Some, None, option_map, inl, inr, refl, ap, sym, ◌∙◌}
use Rattle.std.specs.List.{list_all}
use Rattle.std.specs.Option.{option_map_or}
use Rattle.std.proofs.lemmas.Bool.{and_parts, or_parts, or_from, cond-true, cond-false, cases_Bool}
use Rattle.std.proofs.lemmas.List.Folds.{list_any-append}
use Rattle.std.proofs.lemmas.Option.{none-some}
use Rattle.acl_packet.specs.declared.addresses.Prefix.{Prefix}
use Rattle.acl_packet.specs.Addresses.{IsPrefix}
use Rattle.acl_text.specs.declared.faults.Place.{Place}
use Rattle.acl_text.specs.AddressTexts.{IsPrefixText, block_in, family_in, full_in, prefix_in}
use Rattle.acl_text.specs.Cuts.{cut_at, has_byte}
use Rattle.acl_text.specs.Ipv4.{ipv4_in}
use Rattle.acl_text.specs.Names.{is_name, is_name_byte}
use Rattle.acl_text.proofs.AddressLaws.{prefix-in, prefix-some}
use Rattle.acl_text.proofs.CutLaws.{cut-found, cut-none, has-not}
use Rattle.acl_naming.specs.declared.naming_items.Item.TheVariants.{Name, Network}
use Rattle.acl_naming.specs.declared.item_words.NamingKind.TheVariants.{Networks}
use Rattle.acl_naming.specs.Definitions.{Definition}
use Rattle.acl_naming.specs.ItemWords.{item_in, name_in, network_in}
use Rattle.acl_naming.specs.NamingFiles.{item_added, item_put}

-- ---- names

name_bytes : (word : List ℕ) → is_name word ≡ true → list_all is_name_byte word ≡ true
name_bytes [] h = refl
name_bytes (b ∷ bs) h = (and_parts (nat_le (length (b ∷ bs)) 128) (list_all is_name_byte (b ∷ bs)) h).1

pub named : (place : Place) (word : List ℕ) → is_name word ≡ true → network_in place word ≡ name_in place word
unfolding network_in
named place word h =
    let bytes = name_bytes word h in
    cond-false (has_byte 46 word || has_byte 58 word) _ _
    (or_from (has_byte 46 word) (has_byte 58 word) (has-not is_name_byte 46 word bytes refl) (has-not is_name_byte 58 word bytes refl))

-- ---- prefixes

no_dot : (bs : List ℕ) → has_byte 46 bs ≡ false → ipv4_in bs ≡ None
unfolding ipv4_in
no_dot bs h = rw (cut-none 46 bs h) refl

no_full : (bs : List ℕ) → has_byte 46 bs ≡ false → has_byte 58 bs ≡ false → full_in (family_in bs) bs ≡ None
unfolding full_in
no_full bs h k = rw (k, no_dot bs h) refl

no_block : (bs len : List ℕ) → has_byte 46 bs ≡ false → has_byte 58 bs ≡ false → block_in (family_in bs) bs len ≡ None
unfolding block_in
no_block bs len h k = rw (k, no_dot bs h) refl

front_lacks : (c : ℕ) (bs xs ys : List ℕ) → cut_at 47 bs ≡ Some (xs, ys) → has_byte c bs ≡ false → has_byte c xs ≡ false
front_lacks c bs xs ys e h =
    (or_parts (has_byte c xs) (has_byte c (47 ∷ ys))
    (sym (list_any-append (λ b. b == c) xs (47 ∷ ys)) ∙ sym (ap (has_byte c) (cut-found 47 bs xs ys e).0) ∙ h)).0

no_parts : (bs : List ℕ) (o : Option (List ℕ × List ℕ)) → cut_at 47 bs ≡ o → has_byte 46 bs ≡ false → has_byte 58 bs ≡ false
    → option_map_or {U = Option Prefix} (λ p. block_in (family_in p.0) p.0 p.1) o (full_in (family_in bs) bs) ≡ None
no_parts bs None e h k = no_full bs h k
no_parts bs (Some p) e h k = no_block p.0 p.1 (front_lacks 46 bs p.0 p.1 e h) (front_lacks 58 bs p.0 p.1 e k)

no_prefix : (bs : List ℕ) → has_byte 46 bs ≡ false → has_byte 58 bs ≡ false → prefix_in bs ≡ None
unfolding prefix_in
no_prefix bs h k = no_parts bs (cut_at 47 bs) refl h k

pub unnamed : (place : Place) (word : List ℕ) → is_name word ≡ false → network_in place word ≡ option_map Network (prefix_in word)
unfolding network_in
unnamed place word h = elim (cases_Bool (has_byte 46 word || has_byte 58 word)) [
  | inl t ↦ cond-true (has_byte 46 word || has_byte 58 word) _ _ t
  | inr f ↦ let p = or_parts (has_byte 46 word) (has_byte 58 word) f in
      cond-false (has_byte 46 word || has_byte 58 word) _ _ f
      ∙ cond-false (is_name word) _ _ h
      ∙ sym (ap (option_map Network) (no_prefix word p.0 p.1))
]

-- a network's word that is no name is added as a prefix
pub prefix_added : (place : Place) (ds : List Definition) (word : List ℕ) → is_name word ≡ false
    → item_added Networks place ds word ≡ item_put place ds word (option_map Network (prefix_in word))
unfolding item_added item_in
prefix_added place ds word h = ap (item_put place ds word) (unnamed place word h)

-- a name is added as one
pub name_added : (place : Place) (ds : List Definition) (word : List ℕ) → is_name word ≡ true
    → item_added Networks place ds word ≡ item_put place ds word (Some (Name (record { place = place; name = word })))
unfolding item_added item_in
name_added place ds word h = ap (item_put place ds word) (named place word h ∙ cond-true (is_name word) _ _ h)

-- the word of a prefix is a network's item
read_network : (place : Place) (word : List ℕ) (p : Prefix) → prefix_in word ≡ Some p → network_in place word ≡ Some (Network p)
unfolding network_in
read_network place word p e = elim (cases_Bool (has_byte 46 word || has_byte 58 word)) [
  | inl t ↦ cond-true (has_byte 46 word || has_byte 58 word) _ _ t ∙ ap (option_map Network) e
  | inr f ↦ let q = or_parts (has_byte 46 word) (has_byte 58 word) f in
      absurd (none-some p (sym (no_prefix word q.0 q.1) ∙ e))
]

pub read_added : (place : Place) (ds : List Definition) (word : List ℕ) (p : Prefix) → IsPrefixText word p
    → item_added Networks place ds word ≡ item_put place ds word (Some (Network p))
unfolding item_added item_in
read_added place ds word p h = ap (item_put place ds word) (read_network place word p (prefix-in word p h))

pub read_is : (word : List ℕ) (p : Prefix) → IsPrefixText word p → IsPrefix p
read_is word p h = (prefix-some word (Some p) (sym (prefix-in word p h))).1
