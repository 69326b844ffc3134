-- Each row of a document can be found again in its text.
use Rattle.std.proofs.Common.{ℕ, ◌≤◌, List, flat_map, refl, arith}
use Rattle.std.specs.List.{AllByRecursion}
use Rattle.acl_packet.specs.declared.addresses.Family.TheVariants.{V4}
use Rattle.acl_text.proofs.ListLaws.{all_append}
use Rattle.acl_rows.specs.RowSteps.{IsRow, AreWords, AreRows}
use Rattle.acl_rows.proofs.ListLaws.{all_flat}
use Rattle.acl_rows.proofs.WordLaws.{word, decimal_word, text_words, both_words, log_safe}
use Rattle.cisco_lang.proofs.SafeRows.{action_safe, address_safe}
use Rattle.std_lang.specs.declared.documents.Section.{Section}
use Rattle.std_lang.specs.declared.documents.Item.{Item}
use Rattle.std_lang.specs.declared.documents.Item.TheVariants.{Remark, Entry as AnEntry}
use Rattle.std_lang.specs.Documents.{IsItem, IsSection}
use Rattle.std_lang.specs.Texts.{entry_words, head_rows, item_rows, item_words, list_words, section_rows}

number_safe : (n : ℕ) → n ≤ 99 → AreWords (list_words n)
number_safe n h = search (word, decimal_word n (omega (arith, h)))

item_safe : (i : Item) → IsItem i → AreWords (item_words i)
unfolding item_words entry_words
item_safe (Remark text) h = search (word, text_words text h)
item_safe (AnEntry e) h = search (both_words, action_safe, address_safe V4 e.src h, log_safe)

row_safe : (n : ℕ) (i : Item) → n ≤ 99 → IsItem i → AreRows (item_rows n i)
row_safe n i h k = (record { start = refl; words = both_words (list_words n) (item_words i) (number_safe n h) (item_safe i k) }, tt)

head_safe : (n : ℕ) → n ≤ 99 → AreRows (head_rows n)
head_safe n h = search (word, decimal_word n (omega (arith, h)))

section_safe : (s : Section) → IsSection s → AreRows (section_rows s)
unfolding section_rows
section_safe s h =
    all_append IsRow (head_rows s.number) (flat_map (item_rows s.number) s.items) (head_safe s.number h.number_to)
    (all_flat IsItem IsRow (item_rows s.number) (λ i k. row_safe s.number i h.number_to k) s.items h.items)

pub sections_safe : (doc : List Section) → AllByRecursion IsSection doc → AllByRecursion IsRow (flat_map section_rows doc)
sections_safe doc h = all_flat IsSection IsRow section_rows section_safe doc h
