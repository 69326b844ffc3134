-- Documents of standard access lists of Cisco IOS, which have numbers and look at sources alone, and
-- which of them are valid.
-- Source: Cisco IOS Security Command Reference, "access-list (IP standard)": the number of a list is 1
-- to 99, or one of an expanded range, which is not written here.
use Rattle.std.specs.Prelude.{◌≡◌, ℕ, ◌≤◌, true, List, [], ◌∷◌}
use Rattle.std.specs.Fmt.{decimal}
use Rattle.std.specs.List.{AllByRecursion}
use Rattle.acl_packet.specs.declared.addresses.Family.TheVariants.{V4}
use Rattle.acl_packet.specs.Addresses.{IsPrefixOf}
use Rattle.acl_text.specs.Names.{is_safe_text}
use Rattle.acl_rows.specs.Documents.{IsDocumentOf}
use Rattle.std_lang.specs.declared.documents.Section.{Section}
use Rattle.std_lang.specs.declared.documents.Item.{Item}
use Rattle.std_lang.specs.declared.documents.Item.TheVariants.{Remark, Entry as AnEntry}

-- A remark is safe text, and the source of an entry an IPv4 prefix.
abbrev pub IsItem : Item → Type 0
IsItem (Remark text) = is_safe_text text ≡ true
IsItem (AnEntry e) = IsPrefixOf V4 e.src

-- A section is the list of a number.
pub record IsSection (s : Section) : Type 0 where
  pub number_from : 1 ≤ s.number
  pub number_to : s.number ≤ 99
  pub items : AllByRecursion IsItem s.items

-- What no two sections share: the number, as it is written.
abbrev pub list_names : Section → List (List ℕ)
list_names s = decimal s.number ∷ []

-- A document is its sections, no two of which have the same number.
abbrev pub IsDocument : List Section → Type 0
IsDocument doc = IsDocumentOf IsSection list_names doc
