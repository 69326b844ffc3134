-- What a name reaches.
use Rattle.std.specs.Prelude.{◌≡◌, ℕ, ◌+◌, ◌≤◌, Bool, true, false, ◌&&◌, ◌==◌, List, [], ◌∷◌, length}
use Rattle.std.specs.List.{list_any}
use Rattle.std.specs.Str.{bytes_eq}
use Rattle.acl_packet.specs.declared.addresses.Family.{Family}
use Rattle.acl_packet.specs.Addresses.{has_address, same_family}
use Rattle.acl_naming.specs.declared.naming_items.Item.{Item}
use Rattle.acl_naming.specs.declared.naming_items.Item.TheVariants.{Name, Network, Service}
use Rattle.acl_naming.specs.Definitions.{Definition, items_of}
use Rattle.acl_naming.specs.Ports.{has_port}

-- The item is the name.
abbrev pub is_reference : List ℕ → Item → Bool
is_reference name (Name r) = bytes_eq name r.name
is_reference name (Network p) = false
is_reference name (Service p) = false

-- The item is a prefix of the family that holds the address.
abbrev pub holds_address : Family → ℕ → Item → Bool
holds_address f a (Name r) = false
holds_address f a (Network p) = same_family f p.family && has_address p a
holds_address f a (Service p) = false

-- The item has ports of the protocol.
abbrev pub is_service_of : ℕ → Item → Bool
is_service_of q (Name r) = false
is_service_of q (Network p) = false
is_service_of q (Service p) = q == p.proto

-- The item has the port of the protocol.
abbrev pub holds_port : ℕ → ℕ → Item → Bool
holds_port q n (Name r) = false
holds_port q n (Network p) = false
holds_port q n (Service p) = q == p.proto && has_port p n

-- One name has the other as an item.
abbrev pub refers : List Definition → List ℕ → List ℕ → Bool
refers base name other = list_any (is_reference other) (items_of base name)

-- A walk from a name over further names, which ends at a name: each has the next one as an item.
abbrev pub Walks : List Definition → List ℕ → List (List ℕ) → List ℕ → Type 0
Walks base name [] end = name ≡ end
Walks base name (next ∷ names) end = (refers base name next ≡ true) × Walks base next names end

-- A walk from the name ends at a name with an item that passes the test. A walk has at most one name more than
-- there are definitions, the first one included.
abbrev pub Reaches : List Definition → List ℕ → (Item → Bool) → Type 0
Reaches base name test =
    (names : List (List ℕ)) × (end : List ℕ) × (length names ≤ length base)
    × Walks base name names end
    × (list_any test (items_of base end) ≡ true)

-- The name reaches the address of the family.
abbrev pub ReachesAddress : List Definition → List ℕ → Family → ℕ → Type 0
ReachesAddress base name f a = Reaches base name (holds_address f a)

-- The name reaches the port of the protocol.
abbrev pub ReachesPort : List Definition → List ℕ → ℕ → ℕ → Type 0
ReachesPort base name q n = Reaches base name (holds_port q n)

-- The name reaches ports of the protocol.
abbrev pub ReachesProtocol : List Definition → List ℕ → ℕ → Type 0
ReachesProtocol base name q = Reaches base name (is_service_of q)

-- A walk of two names or more comes back to the name.
abbrev pub ReachesItself : List Definition → List ℕ → Type 0
ReachesItself base name =
    (next : List ℕ) × (names : List (List ℕ)) × (length names + 1 ≤ length base)
    × Walks base name (next ∷ names) name
