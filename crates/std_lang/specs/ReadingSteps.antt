-- Reading leniently: a draft that rows change, and that nothing refuses.
use Rattle.std.specs.Prelude.{ℕ, true, false, if◌then◌else◌, List, [], ◌∷◌, ◌++◌, drop, codes, unwrap_or}
use Rattle.std.specs.List.{join_with_byte}
use Rattle.std.specs.Str.{bytes_eq}
use Rattle.acl_packet.specs.declared.addresses.Family.TheVariants.{V4}
use Rattle.acl_packet.specs.Decimals.{number_in}
use Rattle.acl_rows.specs.RowSteps.{begins_with, few_in}
use Rattle.acl_rows.specs.Rows.{Row}
use Rattle.cisco_lang.specs.AddressReading.{next_word, take_place}
use Rattle.std_lang.specs.declared.documents.Section.{Section}
use Rattle.std_lang.specs.declared.documents.Item.{Item}
use Rattle.std_lang.specs.declared.documents.Item.TheVariants.{Remark, Entry as AnEntry}
use Rattle.std_lang.specs.declared.documents.Entry.{Entry}
use Rattle.std_lang.specs.declared.drafts.NumberedDraft.{NumberedDraft}

unfoldable pub entry_in : List (List ℕ) → Entry
entry_in words =
    let action = next_word words in
    let source = take_place V4 action.1 in
    record {
      permit = bytes_eq action.0 (codes "permit");
      src = source.0;
      log = bytes_eq (next_word source.1).0 (codes "log");
    }

unfoldable pub item_in : List (List ℕ) → Item
item_in words =
    if begins_with (codes "remark") words then Remark (join_with_byte 32 (drop 1 words))
    else AnEntry (entry_in words)

-- The sections so far, with the one that has begun.
abbrev pub ended : NumberedDraft → List Section
ended d = if d.begun then d.sections ++ d.section ∷ [] else d.sections

abbrev pub begin_section : NumberedDraft → List ℕ → NumberedDraft
begin_section d word = record {
  sections = ended d;
  begun = true;
  section = record { number = unwrap_or (number_in 99 word) 0; items = [] };
}

abbrev pub with_item : NumberedDraft → Item → NumberedDraft
with_item d item = record d { section = record d.section { items = d.section.items ++ item ∷ [] } }

-- A comment of four words names a list.
unfoldable pub take_comment : NumberedDraft → List (List ℕ) → NumberedDraft
take_comment d (platform ∷ form ∷ number ∷ []) = begin_section d number
take_comment d words = d

-- Only the first words tell what a row says; the number of a list is that of its comment.
unfoldable pub take_words : NumberedDraft → List (List ℕ) → NumberedDraft
take_words d words =
    let first = next_word words in
    let number = next_word first.1 in
    if bytes_eq first.0 (codes "!") then take_comment d (few_in first.1)
    else if bytes_eq first.0 (codes "access-list") then with_item d (item_in number.1)
    else d

abbrev pub take_row : NumberedDraft → Row → NumberedDraft
take_row d r = take_words d r.words

abbrev pub no_section : Section
no_section = record { number = 0; items = [] }

abbrev pub no_draft : NumberedDraft
no_draft = record { sections = []; begun = false; section = no_section }
