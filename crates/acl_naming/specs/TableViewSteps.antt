-- How a contract sees the table of definitions: the items of all stand in one list.
use Rattle.std.specs.Prelude.{◌≡◌, ℕ, List, [], ◌∷◌, length, map}
use Rattle.std.specs.List.{slice_range}
use Rattle.acl_naming.specs.declared.naming_items.Item.{Item}
use Rattle.acl_naming.specs.declared.tables.TableEntry.{TableEntry}
use Rattle.acl_naming.specs.Definitions.{Definition, items_count}
use Rattle.acl_naming.specs.Rows.{Ascend, begin_at}

abbrev pub Kept : Type 0
Kept = List ℕ × TableEntry

-- Where the items of each definition begin.
abbrev pub begins_of : List Kept → List ℕ
begins_of es = map (λ e. e.1.from) es

abbrev pub definitions_of : List Kept → List Item → List Definition
definitions_of [] items = []
definitions_of (e ∷ es) items = record {
  name = e.0;
  place = e.1.place;
  items = slice_range items e.1.from (begin_at (begins_of es) 0 (length items));
} ∷ definitions_of es items

-- The items are those of the definitions, one behind the other.
abbrev pub AreLaid : List Kept → List Item → Type 0
AreLaid es items =
    Ascend (begins_of es) (length items) × (items_count (definitions_of es items) ≡ length items)
