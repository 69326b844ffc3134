-- What a name reaches, as values that can be computed with. What is to be believed are the walks of Reach: the
-- two laws here join both. A reader needs these values only where he states a function of what a name reaches.
use Rattle.std.specs.Prelude.{◌≡◌, ℕ, ◌+◌, ◌-◌, ◌≤◌, min, zero, suc, ◌↔◌, Bool, true, ◌==◌, nat_le, if◌then◌else◌, List, [], ◌∷◌, ◌++◌, length, flat_map}
use Rattle.std.specs.List.{list_any}
use Rattle.acl_packet.specs.declared.addresses.Family.{Family}
use Rattle.acl_packet.specs.Addresses.{same_family, size_of, top_address}
use Rattle.acl_sets.specs.declared.sets.Range.{Range}
use Rattle.acl_sets.specs.Ranges.{IsNormal, holds}
use Rattle.acl_sets.specs.ComputableSets.{put_all}
use Rattle.acl_naming.specs.declared.naming_items.Item.{Item}
use Rattle.acl_naming.specs.declared.naming_items.Item.TheVariants.{Name, Network, Service}
use Rattle.acl_naming.specs.Definitions.{Definition, items_of}
use Rattle.acl_naming.specs.Ports.{top_port}
use Rattle.acl_naming.specs.Reach.{Reaches, ReachesAddress, ReachesPort}

-- What stands behind an item that is a name.
abbrev pub items_behind : (List ℕ → List Item) → Item → List Item
items_behind items (Name r) = items r.name
items_behind items (Network p) = []
items_behind items (Service p) = []

-- The items that walks of at most so many further names come to.
unfoldable pub items_within : List Definition → ℕ → List ℕ → List Item
items_within base zero name = items_of base name
items_within base (suc n) name =
    items_of base name ++ flat_map (items_behind (items_within base n)) (items_of base name)

-- The items that the name reaches.
abbrev pub items_reached : List Definition → List ℕ → List Item
items_reached base name = items_within base (length base) name

-- The numbers from low to high that are at most the top.
abbrev pub up_to : ℕ → ℕ → ℕ → List Range
up_to top low high =
    if nat_le low (min high top) then record { low = low; high = min high top } ∷ [] else []

-- The addresses of an item in the family, and its ports of the protocol.
abbrev pub addresses_of : Family → Item → List Range
addresses_of f (Name r) = []
addresses_of f (Network p) =
    if same_family f p.family then up_to (top_address f) p.first (p.first + size_of p - 1) else []
addresses_of f (Service p) = []

abbrev pub ports_of : ℕ → Item → List Range
ports_of q (Name r) = []
ports_of q (Network p) = []
ports_of q (Service p) = if q == p.proto then up_to top_port p.low p.high else []

-- What the name reaches, as the one list of ranges of its set.
unfoldable pub addresses_reached : List Definition → Family → List ℕ → List Range
addresses_reached base f name = put_all (flat_map (addresses_of f) (items_reached base name)) []

unfoldable pub ports_reached : List Definition → ℕ → List ℕ → List Range
ports_reached base q name = put_all (flat_map (ports_of q) (items_reached base name)) []

-- A test of items passes at some item that is reached exactly where a walk ends at one.
abbrev pub ReachIsComputed : Type 0
ReachIsComputed = (base : List Definition) (name : List ℕ) (test : Item → Bool)
    → (list_any test (items_reached base name) ≡ true) ↔ Reaches base name test

-- The lists are those of sets, and hold what is reached.
abbrev pub AddressesAreComputed : Type 0
AddressesAreComputed = (base : List Definition) (f : Family) (name : List ℕ)
    → IsNormal 0 (top_address f) (addresses_reached base f name)
    × ((a : ℕ) → a ≤ top_address f → (holds (addresses_reached base f name) a ≡ true) ↔ ReachesAddress base name f a)

abbrev pub PortsAreComputed : Type 0
PortsAreComputed = (base : List Definition) (q : ℕ) (name : List ℕ)
    → IsNormal 0 top_port (ports_reached base q name)
    × ((n : ℕ) → n ≤ top_port → (holds (ports_reached base q name) n ≡ true) ↔ ReachesPort base name q n)
