-- What is written of a document is read again.
use Rattle.std.proofs.Common.{◌≡◌, ℕ, ◌≤◌, Bool, true, false, List, [], ◌∷◌, ◌++◌, flat_map, unwrap_or, refl, ap, sym, ◌∙◌, append-nil, append_assoc, arith}
use Rattle.std.specs.List.{fold, AllByRecursion}
use Rattle.std.proofs.lemmas.List.Splits.{join_with_byte-slice_split}
use Rattle.std.proofs.lemmas.List.Sums.{fold-append}
use Rattle.acl_packet.specs.declared.addresses.Family.TheVariants.{V4}
use Rattle.acl_packet.specs.Addresses.{IsPrefixOf}
use Rattle.acl_packet.proofs.DecimalLaws.{number-again}
use Rattle.acl_rows.specs.Rows.{Row}
use Rattle.acl_rows.specs.RowSteps.{row_in, document_in}
use Rattle.acl_rows.specs.RuleParts.{log_words}
use Rattle.acl_rows.proofs.RowLaws.{fold-again, fold-members}
use Rattle.cisco_lang.specs.AddressReading.{next_word}
use Rattle.cisco_lang.specs.Texts.{action_word, address_words}
use Rattle.cisco_lang.proofs.EntryReadingLaws.{action_again, log_read, place_read}
use Rattle.std_lang.specs.declared.documents.Section.{Section}
use Rattle.std_lang.specs.declared.documents.Item.{Item}
use Rattle.std_lang.specs.declared.documents.Item.TheVariants.{Remark, Entry as AnEntry}
use Rattle.std_lang.specs.declared.documents.Entry.{Entry}
use Rattle.std_lang.specs.declared.drafts.NumberedDraft.{NumberedDraft}
use Rattle.std_lang.specs.Documents.{IsItem, IsSection}
use Rattle.std_lang.specs.Texts.{entry_words, head_rows, item_rows, item_words, section_rows, text_of}
use Rattle.std_lang.specs.ReadingSteps.{ended, entry_in, item_in, no_draft, take_comment, take_row, take_words}
use Rattle.std_lang.proofs.SafeRows.{sections_safe}

abbrev at : List Section → ℕ → List Item → NumberedDraft
at ss n items = record { sections = ss; begun = true; section = record { number = n; items = items } }

abbrev read : NumberedDraft → List Row → NumberedDraft
read d rows = fold take_row d rows

then : (d m e : NumberedDraft) (xs ys : List Row) → read d xs ≡ m → read m ys ≡ e → read d (xs ++ ys) ≡ e
then d m e xs ys h k = fold-append take_row d xs ys ∙ ap (λ s. read s ys) h ∙ k

-- ---- items

entry_again : (e : Entry) → IsPrefixOf V4 e.src → entry_in (entry_words e) ≡ e
unfolding entry_in entry_words next_word
entry_again e h =
    let src = place_read V4 e.src (log_words e.log) h in
    rw (action_again e.permit, src.0, log_read e.log) refl

-- the row of an entry does not begin as that of a remark
no_remark : (b : Bool) (words : List (List ℕ)) → item_in (action_word b ∷ words) ≡ AnEntry (entry_in (action_word b ∷ words))
unfolding item_in
no_remark true words = refl
no_remark false words = refl

entry_row : (e : Entry) → IsPrefixOf V4 e.src → item_in (entry_words e) ≡ AnEntry e
unfolding entry_words
entry_row e h = no_remark e.permit (address_words V4 e.src ++ log_words e.log) ∙ ap (λ d. AnEntry d) (entry_again e h)

item_again : (i : Item) → IsItem i → item_in (item_words i) ≡ i
unfolding item_words item_in
item_again (Remark text) h = ap (λ t. Remark t) (join_with_byte-slice_split 32 text)
item_again (AnEntry e) h = entry_row e h

item_read : (ss : List Section) (n : ℕ) (items : List Item) (i : Item) → IsItem i → read (at ss n items) (item_rows n i) ≡ at ss n (items ++ i ∷ [])
unfolding take_words next_word
item_read ss n items i h = ap (λ x. at ss n (items ++ x ∷ [])) (item_again i h)

items_read : (ss : List Section) (n : ℕ) (items : List Item) → AllByRecursion IsItem items → read (at ss n []) (flat_map (item_rows n) items) ≡ at ss n items
items_read ss n items h = fold-members take_row (item_rows n) (at ss n) IsItem (item_read ss n) [] items h

-- ---- sections

head_read : (d : NumberedDraft) (n : ℕ) → n ≤ 99 → read d (head_rows n) ≡ at (ended d) n []
unfolding take_words take_comment next_word
head_read d n h = ap (λ o. at (ended d) (unwrap_or o 0) []) (number-again 99 n (omega (arith, h)) h)

section_read : (d : NumberedDraft) (s : Section) → IsSection s → read d (section_rows s) ≡ at (ended d) s.number s.items
unfolding section_rows
section_read d s h =
    then d (at (ended d) s.number []) (at (ended d) s.number s.items) (head_rows s.number) (flat_map (item_rows s.number) s.items)
    (head_read d s.number h.number_to) (items_read (ended d) s.number s.items h.items)

sections_read : (d : NumberedDraft) (doc : List Section) → AllByRecursion IsSection doc → ended (read d (flat_map section_rows doc)) ≡ ended d ++ doc
sections_read d [] h = sym (append-nil (ended d))
sections_read d (s ∷ doc) h =
    let rest = flat_map section_rows doc in
    let next = at (ended d) s.number s.items in
    ap ended (then d next (read next rest) (section_rows s) rest (section_read d s h.0) refl)
    ∙ sections_read next doc h.1 ∙ append_assoc (ended d) (s ∷ []) doc

-- ---- documents

empty_row : (d : NumberedDraft) → take_row d (row_in []) ≡ d
unfolding row_in take_words next_word
empty_row d = refl

pub document_again : (doc : List Section) → AllByRecursion IsSection doc → document_in take_row no_draft ended (text_of doc) ≡ doc
document_again doc h =
    let rows = flat_map section_rows doc in
    let end = read no_draft rows in
    ap ended (fold-again take_row no_draft end rows (sections_safe doc h) refl (empty_row end)) ∙ sections_read no_draft doc h
