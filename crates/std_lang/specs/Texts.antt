-- The text of a document of standard access lists of Cisco IOS.
-- Sources: Cisco IOS Security Command Reference, "access-list (IP standard)" and "remark": each line of a
-- list begins with its number, and `no access-list` with a number takes an older list away.
use Rattle.std.specs.Prelude.{◌≡◌, ℕ, List, [], ◌∷◌, ◌++◌, flat_map, codes}
use Rattle.std.specs.Fmt.{decimal}
use Rattle.acl_packet.specs.declared.addresses.Family.TheVariants.{V4}
use Rattle.acl_rows.specs.Documents.{IsSpelling}
use Rattle.acl_rows.specs.Rows.{Row, row, words_in, text_of_rows}
use Rattle.acl_rows.specs.RuleParts.{log_words}
use Rattle.cisco_lang.specs.Texts.{action_word, address_words}
use Rattle.std_lang.specs.declared.documents.Section.{Section}
use Rattle.std_lang.specs.declared.documents.Item.{Item}
use Rattle.std_lang.specs.declared.documents.Item.TheVariants.{Remark, Entry as AnEntry}
use Rattle.std_lang.specs.declared.documents.Entry.{Entry}
use Rattle.std_lang.specs.Documents.{IsDocument}

-- The words that a line of a list begins with.
abbrev pub list_words : ℕ → List (List ℕ)
list_words number = codes "access-list" ∷ decimal number ∷ []

-- A source is written as the IPv4 addresses of extended lists are.
unfoldable pub entry_words : Entry → List (List ℕ)
entry_words e = action_word e.permit ∷ (address_words V4 e.src ++ log_words e.log)

-- A remark is a free text, an entry its words.
unfoldable pub item_words : Item → List (List ℕ)
item_words (Remark text) = codes "remark" ∷ words_in text
item_words (AnEntry e) = entry_words e

-- An item of the list of a number.
abbrev pub item_rows : ℕ → Item → List Row
item_rows number item = row 0 (list_words number ++ item_words item) ∷ []

-- A section begins with a comment that names its list, and a line that takes an older list of the
-- number away.
abbrev pub head_rows : ℕ → List Row
head_rows number = row 0 (codes "!" ∷ codes "cisco" ∷ codes "standard" ∷ decimal number ∷ [])
    ∷ row 0 (codes "no" ∷ list_words number) ∷ []

unfoldable pub section_rows : Section → List Row
section_rows s = head_rows s.number ++ flat_map (item_rows s.number) s.items

-- The text of a document is its sections, one behind another.
abbrev pub text_of : List Section → List ℕ
text_of doc = text_of_rows (flat_map section_rows doc)

-- The bytes spell the document: it is valid, and they are its text.
abbrev pub Spells : List ℕ → List Section → Type 0
Spells bytes doc = IsSpelling IsDocument text_of bytes doc

-- A law: a text has at most one document.
abbrev pub OneDocument : Type 0
OneDocument = (bytes : List ℕ) (a b : List Section) → Spells bytes a → Spells bytes b → a ≡ b
