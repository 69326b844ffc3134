-- Definitions of names, and what a name's items are.
use Rattle.std.specs.Prelude.{ℕ, ◌+◌, zero, suc, List, [], ◌∷◌, length, Option, None, Some, position}
use Rattle.std.specs.Str.{bytes_eq}
use Rattle.acl_text.specs.declared.faults.Place.{Place}
use Rattle.acl_naming.specs.declared.naming_items.Item.{Item}

-- A name, the place where it is defined, and its items.
pub record Definition : Type 0 where
  pub name : List ℕ
  pub place : Place
  pub items : List Item

-- The definitions of networks and those of services, each in order.
pub record Naming : Type 0 where
  pub networks : List Definition
  pub services : List Definition

-- Where the definition of the name stands in the list.
abbrev pub index_of : List Definition → List ℕ → Option ℕ
index_of base name = position (λ d. bytes_eq name d.name) base

abbrev pub items_at : List Definition → ℕ → List Item
items_at [] i = []
items_at (d ∷ ds) zero = d.items
items_at (d ∷ ds) (suc i) = items_at ds i

abbrev pub items_in : List Definition → Option ℕ → List Item
items_in base None = []
items_in base (Some i) = items_at base i

-- The items of a name: none where it is not defined.
abbrev pub items_of : List Definition → List ℕ → List Item
items_of base name = items_in base (index_of base name)

-- How many items all definitions have.
abbrev pub items_count : List Definition → ℕ
items_count [] = 0
items_count (d ∷ ds) = length d.items + items_count ds
