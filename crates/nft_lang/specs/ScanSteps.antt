-- Taking a section from the front of a text: its head, then item by item.
use Rattle.std.specs.Prelude.{◌≡◌, ℕ, zero, suc, if◌then◌else◌, List, [], ◌∷◌, ◌++◌, replicate, flat_map, codes, Option, None, Some, IfSome, option_and_then, option_map, unwrap_or}
use Rattle.std.specs.List.{AllByRecursion}
use Rattle.std.specs.Option.{IsSomeAnd, option_map_or}
use Rattle.std.specs.Str.{bytes_eq}
use Rattle.acl_packet.specs.declared.addresses.Families.{Families}
use Rattle.acl_packet.specs.declared.filtering.Outcome.{Outcome}
use Rattle.acl_packet.specs.declared.packets.Packet.{Packet}
use Rattle.acl_packet.specs.Addresses.{covers}
use Rattle.acl_packet.specs.Outcomes.{unlogged}
use Rattle.acl_text.specs.Cuts.{behind, cut_at}
use Rattle.acl_rows.specs.FamilyWords.{families_in}
use Rattle.acl_rows.specs.Rows.{Row, text_of_rows, words_in}
use Rattle.nft_lang.specs.declared.chain_rows.TableHead.{TableHead}
use Rattle.nft_lang.specs.declared.documents.Item.{Item}
use Rattle.nft_lang.specs.declared.documents.Section.{Section}
use Rattle.nft_lang.specs.declared.scanning.Taken.{Taken}
use Rattle.nft_lang.specs.Documents.{IsItem}
use Rattle.nft_lang.specs.ReadingSteps.{hook_in, item_in, priority_in, table_in, up_to}
use Rattle.nft_lang.specs.Texts.{end_rows, head_rows, item_rows, section_rows}
use Rattle.nft_lang.specs.Walks.{first_holding, policy_verdict, section_outcome}

-- ---- what is taken

-- What was taken is a front of the text: it is valid, the text begins with what is written of it,
-- and it decides this.
pub record IsFront {A : Type 0} (IsValid : A → Type 0) (written : A → List ℕ)
    (decides : A → Option Outcome) (text : List ℕ) (taken : Taken) (front : A) : Type 0 where
  pub valid : IsValid front
  pub written_first : text ≡ written front ++ taken.rest.now
  pub decided : taken.decided ≡ decides front

-- Something is taken only if it is a front of the text, and each front of the text is taken whole.
pub record TakesFront {A : Type 0} (IsValid : A → Type 0) (written : A → List ℕ)
    (decides : A → Option Outcome) (text : List ℕ) (taken : Option Taken) : Type 0 where
  pub some : IfSome taken (λ t. (front : A) × IsFront IsValid written decides text t front)
  pub each : (front : A) (rest : List ℕ) → IsValid front → text ≡ written front ++ rest
      → IsSomeAnd taken (λ t. t.rest.now ≡ rest)

-- ---- items

-- The words of the item that a text begins with: its first line behind eight spaces.
unfoldable pub item_text_in : List ℕ → Option (List ℕ)
item_text_in text =
    option_and_then (λ (cut : List ℕ × List ℕ). behind (replicate 8 32) cut.0) (cut_at 10 text)

-- The item that the first line says, whatever that is.
unfoldable pub first_item_in : Families → List ℕ → Option Item
first_item_in families text =
    option_map (λ words. item_in families (words_in words)) (item_text_in text)

abbrev pub item_text : Families → Item → List ℕ
item_text families item = text_of_rows (item_rows families item)

abbrev pub TakesItem : Families → Packet → List ℕ → Option Taken → Type 0
TakesItem families packet text taken = TakesFront (IsItem families) (item_text families)
    (λ item. first_holding (item ∷ []) packet) text taken

-- The items of a chain, and the rows that close it.
unfoldable pub items_text : Families → List Item → List ℕ
items_text families items = text_of_rows (flat_map (item_rows families) items ++ end_rows)

abbrev pub TakesItems : Families → Packet → List ℕ → Option Taken → Type 0
TakesItems families packet text taken = TakesFront (AllByRecursion (IsItem families))
    (items_text families) (λ items. first_holding items packet) text taken

-- The items so far, and the first of them that decides. Where the text begins with the items of a
-- chain, what it has behind those so far begins with the others.
pub record ItemsTaken (families : Families) (packet : Packet) (text rest : List ℕ)
    (decided : Option Outcome) : Type 0 where
  pub before : (items : List Item) × AllByRecursion (IsItem families) items
      × (text ≡ text_of_rows (flat_map (item_rows families) items) ++ rest)
      × (decided ≡ first_holding items packet)
  pub behind : (items : List Item) (more : List ℕ) → AllByRecursion (IsItem families) items
      → text ≡ items_text families items ++ more → (left : List Item)
      × AllByRecursion (IsItem families) left × (rest ≡ items_text families left ++ more)

-- ---- heads

-- What a text has behind the first such byte; nothing where it has none.
unfoldable pub behind_byte : ℕ → List ℕ → List ℕ
behind_byte byte text =
    option_map_or {U = List ℕ} (λ (cut : List ℕ × List ℕ). cut.1) (cut_at byte text) []

-- The part of a text at that place, counted from 0, between such bytes.
abbrev pub part_at : ℕ → ℕ → List ℕ → List ℕ
part_at byte zero text = up_to byte text
part_at byte (suc place) text = part_at byte place (behind_byte byte text)

-- The name of the table stands in the second line, which adds it.
unfoldable pub name_in : List ℕ → List ℕ
name_in text = part_at 32 3 (part_at 10 1 text)

-- The first line of a section names its target. The sixth is that of the base chain, behind eight
-- spaces, so that its words are eight places further on.
unfoldable pub head_in : List ℕ → TableHead
head_in text = record {
  hook = hook_in (part_at 32 2 (part_at 10 0 text));
  families = families_in (part_at 32 3 (part_at 10 0 text));
  number = table_in (name_in text);
  priority = priority_in (part_at 32 13 (part_at 10 5 text));
  accept = bytes_eq (part_at 32 15 (part_at 10 5 text)) (codes "accept;");
}

abbrev pub head_rows_of : TableHead → List Row
head_rows_of head = head_rows head.hook head.families head.number head.priority head.accept

-- ---- sections

abbrev pub section_of : TableHead → List Item → Section
section_of head items = record {
  hook = head.hook;
  families = head.families;
  number = head.number;
  priority = head.priority;
  accept = head.accept;
  items = items;
}

unfoldable pub section_text : TableHead → List Item → List ℕ
section_text head items = text_of_rows (section_rows (section_of head items))

-- What a section of the head does to the packet, whose items decide that.
abbrev pub outcome_from : TableHead → Option Outcome → Packet → Option Outcome
outcome_from head decided p =
    if covers head.families p.family
    then Some (unwrap_or decided (unlogged (policy_verdict head.accept))) else None

-- A section with that head is taken.
abbrev pub TakesChain : TableHead → Packet → List ℕ → Option Taken → Type 0
TakesChain head packet text taken = TakesFront (AllByRecursion (IsItem head.families))
    (section_text head) (λ items. section_outcome (section_of head items) packet) text taken
