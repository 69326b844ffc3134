-- Parts of a list of definitions, and one more item.
use Rattle.std.specs.Prelude.{ℕ, zero, suc, List, [], ◌∷◌, ◌++◌}
use Rattle.acl_text.specs.declared.faults.Place.{Place}
use Rattle.acl_naming.specs.declared.naming_items.Item.{Item}
use Rattle.acl_naming.specs.Definitions.{Definition}

-- the name, and the place, of the definition at an index
abbrev pub name_at : List Definition → ℕ → List ℕ
name_at [] i = []
name_at (d ∷ ds) zero = d.name
name_at (d ∷ ds) (suc i) = name_at ds i

abbrev pub place_at : List Definition → ℕ → Place
place_at [] i = record { file = 0; line = 0 }
place_at (d ∷ ds) zero = d.place
place_at (d ∷ ds) (suc i) = place_at ds i

-- the last definition has one more item
abbrev pub with_item : List Definition → Item → List Definition
with_item [] item = []
with_item (d ∷ []) item =
    record { name = d.name; place = d.place; items = d.items ++ item ∷ [] } ∷ []
with_item (d ∷ e ∷ ds) item = d ∷ with_item (e ∷ ds) item
