-- Names by the places of their definitions.
use Rattle.std.specs.Prelude.{◌≡◌, ℕ, ◌+◌, ◌<◌, ◌≤◌, suc, Bool, true, false, replicate, map, List, [], ◌∷◌, length, Option, None, Some}
use Rattle.std.specs.List.{All, list_any}
use Rattle.acl_naming.specs.declared.naming_items.Item.{Item}
use Rattle.acl_naming.specs.declared.naming_items.Item.TheVariants.{Name, Network, Service}
use Rattle.acl_naming.specs.Definitions.{Definition, index_of, items_at}
use Rattle.acl_naming.specs.MarkSteps.{among, leads, AreClosed}
use Rattle.acl_naming.specs.Reach.{is_reference, Walks}

abbrev pub with_index : Option ℕ → List ℕ → List ℕ
with_index None js = js
with_index (Some j) js = j ∷ js

-- Where the definitions of the items' names stand.
abbrev pub targets : List Definition → List Item → List ℕ
targets base [] = []
targets base (Name r ∷ items) = with_index (index_of base r.name) (targets base items)
targets base (Network p ∷ items) = targets base items
targets base (Service p ∷ items) = targets base items

-- How many of the items are names.
abbrev pub names_count : List Item → ℕ
names_count [] = 0
names_count (Name r ∷ items) = suc (names_count items)
names_count (Network p ∷ items) = names_count items
names_count (Service p ∷ items) = names_count items

-- For each of the definitions, where those of its names stand.
abbrev pub graph_in : List Definition → List Definition → List (List ℕ)
graph_in base ds = map (λ d. targets base d.items) ds

abbrev pub graph_of : List Definition → List (List ℕ)
graph_of base = graph_in base base

-- No mark at any definition.
abbrev pub blank : List Definition → List Bool
blank base = replicate (length base) false

-- A walk that begins at a name among the items at i ends at a name that is defined at j. It has at most n names.
abbrev pub Follows : List Definition → ℕ → ℕ → ℕ → Type 0
Follows base i n j =
    (next : List ℕ) × (names : List (List ℕ)) × (end : List ℕ) × (length names + 1 ≤ n)
    × (list_any (is_reference next) (items_at base i) ≡ true) × Walks base next names end
    × (index_of base end ≡ Some j)

-- The places are those of the definitions that the names of the i-th one reach.
pub record AreBehind (base : List Definition) (i : ℕ) (places : List ℕ) : Type 0 where
  pub within : All (λ j. j < length base) places
  pub begun : (j : ℕ) → leads (graph_of base) i j ≡ true → among j places ≡ true
  pub closed : AreClosed (graph_of base) places
  pub sound : (j : ℕ) → among j places ≡ true → Follows base i (length base) j
