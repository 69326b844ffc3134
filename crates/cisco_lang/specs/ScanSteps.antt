-- A section is taken from the front of a text row by row, each of which is let go before the next
-- is read.
use Rattle.std.specs.Prelude.{◌≡◌, ℕ, Bool, true, if◌then◌else◌, List, [], ◌∷◌, ◌++◌, flat_map, map, drop, codes, Option, None, Some, IfSome, option_map, option_and_then, unwrap_or}
use Rattle.std.specs.List.{AllByRecursion}
use Rattle.std.specs.Option.{IsSomeAnd, option_to_list}
use Rattle.std.specs.Str.{bytes_eq}
use Rattle.acl_packet.specs.declared.addresses.Family.{Family}
use Rattle.acl_packet.specs.declared.addresses.Family.TheVariants.{V4, V6}
use Rattle.acl_packet.specs.declared.addresses.Families.{Families}
use Rattle.acl_packet.specs.declared.addresses.Families.TheVariants.{Inet, Inet6}
use Rattle.acl_packet.specs.declared.packets.Packet.{Packet}
use Rattle.acl_packet.specs.declared.filtering.Outcome.{Outcome}
use Rattle.acl_packet.specs.declared.filtering.Verdict.TheVariants.{Accept}
use Rattle.acl_packet.specs.Addresses.{same_family}
use Rattle.acl_packet.specs.Outcomes.{unlogged}
use Rattle.acl_text.specs.Cuts.{cut_at, behind}
use Rattle.acl_text.specs.Names.{is_filter_name}
use Rattle.acl_rows.specs.FamilyWords.{families_in}
use Rattle.acl_rows.specs.Rows.{Row, words_in, text_of_rows}
use Rattle.cisco_lang.specs.declared.documents.AccessList.{AccessList}
use Rattle.cisco_lang.specs.declared.documents.Item.{Item}
use Rattle.cisco_lang.specs.declared.documents.Item.TheVariants.{Remark, Entry as AnEntry}
use Rattle.cisco_lang.specs.declared.documents.Entry.{Entry}
use Rattle.cisco_lang.specs.declared.scanning.TakenList.{TakenList}
use Rattle.cisco_lang.specs.declared.scanning.TakenLists.{TakenLists}
use Rattle.cisco_lang.specs.declared.scanning.Walked.{Walked}
use Rattle.cisco_lang.specs.AddressReading.{next_word}
use Rattle.cisco_lang.specs.Documents.{IsItem, IsList, heads_of}
use Rattle.cisco_lang.specs.ReadingSteps.{item_in}
use Rattle.cisco_lang.specs.Texts.{item_rows, list_rows, section_row}
use Rattle.cisco_lang.specs.ValiditySteps.{is_item}
use Rattle.cisco_lang.specs.Walks.{decided_by, ending, entry_holds, first_holding, has_entries, section_outcome, walk}

-- ---- items

-- The entry that an item is.
abbrev pub entry_part : Item → Option Entry
entry_part (Remark text) = None
entry_part (AnEntry e) = Some e

-- What a text has behind the rows of an item, where the item is valid and the text begins with
-- them; beside the item's entry.
abbrev pub row_behind : Bool → Option Entry → List Row → List ℕ → Option (Option Entry × List ℕ)
row_behind valid entry rows text =
    if valid then option_map (λ rest. (entry, rest)) (behind (text_of_rows rows) text) else None

abbrev pub item_behind : Family → Item → List ℕ → Option (Option Entry × List ℕ)
item_behind family item text =
    row_behind (is_item family item) (entry_part item) (item_rows family item) text

-- The same, of the item that the first line is read as.
unfoldable pub item_taken : Family → List ℕ → Option (Option Entry × List ℕ)
item_taken family text =
    option_and_then (λ cut. item_behind family (item_in family (drop 1 (words_in cut.0))) text)
    (cut_at 10 text)

-- ---- what items do to a packet, one by one

abbrev pub or_entry : Option Outcome → Entry → Packet → Option Outcome
or_entry (Some outcome) e p = Some outcome
or_entry None e p = if entry_holds e p then Some (decided_by e) else None

abbrev pub walk_on : Walked → Option Entry → Packet → Walked
walk_on w None p = w
walk_on w (Some e) p = record { has_entries = true; first = or_entry w.first e p }

-- What is known behind these items.
abbrev pub walked_by : List Item → Packet → Walked
walked_by items p = record { has_entries = has_entries items; first = first_holding items p }

abbrev pub walk_end : Family → Walked → Packet → Outcome
walk_end family w p =
    if w.has_entries then unwrap_or w.first (ending family p) else unlogged Accept

-- The text begins with these valid items, and nothing else is kept of them.
pub record ItemsSoFar (family : Family) (packet : Packet) (text rest : List ℕ) (walked : Walked)
    (items : List Item) : Type 0 where
  pub valid : AllByRecursion (IsItem family) items
  pub written : text ≡ text_of_rows (flat_map (item_rows family) items) ++ rest
  pub known : walked ≡ walked_by items packet

-- They are all that the text begins with.
pub record ItemsTaken (family : Family) (packet : Packet) (text : List ℕ) (taken : TakenList)
    (items : List Item) : Type 0 where
  pub valid : AllByRecursion (IsItem family) items
  pub written : text ≡ text_of_rows (flat_map (item_rows family) items) ++ taken.rest.now
  pub decided : taken.outcome ≡ walk family items packet
  pub no_more : item_taken family taken.rest.now ≡ None

-- ---- lists

abbrev pub list_of : Family → List ℕ → List Item → AccessList
list_of family name items = record { family = family; name = name; items = items }

pub record IsListTaken (family : Family) (name : List ℕ) (packet : Packet) (text : List ℕ)
    (taken : TakenList) (items : List Item) : Type 0 where
  pub valid : AllByRecursion (IsItem family) items
  pub written : text ≡ text_of_rows (list_rows (list_of family name items)) ++ taken.rest.now
  pub decided : taken.outcome ≡ walk family items packet

-- The list of the family and name is taken, if the text begins with one.
pub record TakesList (family : Family) (name : List ℕ) (packet : Packet) (text : List ℕ)
    (taken : Option TakenList) : Type 0 where
  pub some : IfSome taken (λ t. (items : List Item) × IsListTaken family name packet text t items)
  pub each : (items : List Item) (more : List ℕ) → AllByRecursion (IsItem family) items
      → text ≡ text_of_rows (list_rows (list_of family name items)) ++ more
      → IsSomeAnd taken (λ t. t.rest.now ≡ more)

-- ---- the lists of a section

-- Lists of these families under their names.
pub record AreListsOf (families : Families) (name : List ℕ) (lists : List AccessList) : Type 0 where
  pub heads : map (λ l. (l.family, l.name)) lists ≡ heads_of families name
  pub valid : AllByRecursion IsList lists

-- The families of a section that has a list of this one alone.
abbrev pub only : Family → Families
only V4 = Inet
only V6 = Inet6

-- What is decided of a packet of the family: by a list of one, and by one of each.
abbrev pub where_family : Family → Family → Outcome → Option Outcome
where_family family other outcome = if same_family other family then Some outcome else None

abbrev pub by_family : Family → Outcome → Outcome → Outcome
by_family V4 four six = four
by_family V6 four six = six

pub record AreListsTaken (families : Families) (name : List ℕ) (packet : Packet) (text : List ℕ)
    (taken : TakenLists) (lists : List AccessList) : Type 0 where
  pub valid : AreListsOf families name lists
  pub written : text ≡ text_of_rows (flat_map list_rows lists) ++ taken.rest.now
  pub named : name ∷ option_to_list (option_map (λ n. n.now) taken.second) ≡ map (λ l. l.name) lists
  pub decided : taken.outcome
      ≡ section_outcome (record { name = name; families = families; lists = lists }) packet

pub record TakesLists (families : Families) (name : List ℕ) (packet : Packet) (text : List ℕ)
    (taken : Option TakenLists) : Type 0 where
  pub some : IfSome taken (λ t. (lists : List AccessList)
      × AreListsTaken families name packet text t lists)
  pub each : (lists : List AccessList) (more : List ℕ) → is_filter_name name ≡ true
      → AreListsOf families name lists
      → text ≡ text_of_rows (flat_map list_rows lists) ++ more
      → IsSomeAnd taken (λ t. t.rest.now ≡ more)

-- ---- names

unfoldable pub third_and_fourth : List ℕ → List ℕ × List ℕ
third_and_fourth line =
    let third = next_word (next_word (next_word (words_in line)).1).1 in
    (third.0, (next_word third.1).0)

-- The name of the IPv6 list of a mixed section, which its first row has.
unfoldable pub second_name : List ℕ → List ℕ → Option (List ℕ)
second_name name text =
    option_and_then (λ cut. if bytes_eq (third_and_fourth cut.0).1 (codes "ipv6-" ++ name)
    then Some (third_and_fourth cut.0).1 else None) (cut_at 10 text)

-- The name and families of a section, and what the text has behind the row that begins it.
abbrev pub heading_behind : List ℕ → Families → List ℕ → Option (List ℕ × Families × List ℕ)
heading_behind name families text =
    if is_filter_name name
    then option_map (λ rest. (name, families, rest))
    (behind (text_of_rows (section_row name families ∷ [])) text)
    else None

unfoldable pub heading_taken : List ℕ → Option (List ℕ × Families × List ℕ)
heading_taken text =
    option_and_then (λ cut. heading_behind (third_and_fourth cut.0).0
    (families_in (third_and_fourth cut.0).1) text) (cut_at 10 text)
