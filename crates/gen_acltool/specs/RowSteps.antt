-- The rows of a list's items.
use Rattle.std.specs.Prelude.{ℕ, List, flat_map}
use Rattle.acl_rows.specs.Rows.{Row}
use Rattle.std_lang.specs.declared.documents.Item.{Item}
use Rattle.std_lang.specs.Texts.{item_rows}

abbrev pub items_rows : ℕ → List Item → List Row
items_rows number items = flat_map (item_rows number) items
