-- What is looked up of a name: addresses of a family, or ports of a protocol.
use Rattle.std.specs.Prelude.{◌≡◌, ◌↔◌, ◌⊎◌, ℕ, Bool, true, false, ◌||◌, nat_lt, List, length, Option, None, Some}
use Rattle.std.specs.List.{list_any, All}
use Rattle.acl_sets.specs.declared.sets.Range.{Range}
use Rattle.acl_sets.specs.Ranges.{IsRange, inside, holds}
use Rattle.acl_naming.specs.declared.naming_items.Item.{Item}
use Rattle.acl_naming.specs.declared.naming_items.Item.TheVariants.{Name, Network, Service}
use Rattle.acl_naming.specs.declared.reaching.Wanted.{Wanted}
use Rattle.acl_naming.specs.declared.reaching.Wanted.TheVariants.{Addresses, Ports}
use Rattle.acl_naming.specs.Definitions.{Definition, index_of, items_at}
use Rattle.acl_packet.specs.Addresses.{top_address, same_family}
use Rattle.acl_packet.specs.declared.addresses.Family.TheVariants.{V4, V6}
use Rattle.acl_naming.specs.MarkSteps.{marked}
use Rattle.acl_naming.specs.Ports.{top_port}
use Rattle.acl_naming.specs.Reach.{holds_address, holds_port, is_service_of, Reaches}

-- the greatest number of the kind
abbrev pub top_of : Wanted → ℕ
top_of (Addresses f) = top_address f
top_of (Ports q) = top_port

-- The item holds the number.
abbrev pub has_number : Wanted → ℕ → Item → Bool
has_number (Addresses f) x item = holds_address f x item
has_number (Ports q) x item = holds_port q x item

-- The item is of the kind: a prefix of the family, or ports of the protocol.
abbrev pub is_wanted : Wanted → Item → Bool
is_wanted (Addresses f) (Name r) = false
is_wanted (Addresses f) (Network p) = same_family f p.family
is_wanted (Addresses f) (Service p) = false
is_wanted (Ports q) item = is_service_of q item

-- The numbers of one item as a range, where it is of the kind.
abbrev pub IsRangeOf : Wanted → Item → Option Range → Type 0
IsRangeOf w item None = (is_wanted w item ≡ false) × ((x : ℕ) → has_number w x item ≡ false)
IsRangeOf w item (Some r) =
    (is_wanted w item ≡ true) × IsRange (top_of w) r × ((x : ℕ) → inside r x ≡ has_number w x item)

-- The numbers of the items were put behind the ranges.
pub record Collects (w : Wanted) (test : (Item → Bool) → Bool) (old new : List Range) : Type 0 where
  pub fits : All (λ r. IsRange (top_of w) r) old → All (λ r. IsRange (top_of w) r) new
  pub exact : (x : ℕ) → holds new x ≡ holds old x || test (has_number w x)
  pub some : nat_lt 0 (length new) ≡ nat_lt 0 (length old) || test (is_wanted w)

-- Some item of the list passes the test; some item of a definition at one of the places does.
abbrev pub any_item : List Item → (Item → Bool) → Bool
any_item items test = list_any test items

abbrev pub any_at : List Definition → List ℕ → (Item → Bool) → Bool
any_at base places test = list_any (λ j. list_any test (items_at base j)) places

-- The ranges are what the name reaches.
pub record IsReach (base : List Definition) (name : List ℕ) (w : Wanted)
    (ranges : List Range) : Type 0 where
  pub fits : All (λ r. IsRange (top_of w) r) ranges
  pub exact : (x : ℕ) → (holds ranges x ≡ true) ↔ Reaches base name (has_number w x)
  pub some : (nat_lt 0 (length ranges) ≡ true) ↔ Reaches base name (is_wanted w)

-- The ranges of what the name reaches were put behind others.
pub record AddsReach (base : List Definition) (name : List ℕ) (w : Wanted) (old new : List Range) : Type 0 where
  pub fits : All (λ r. IsRange (top_of w) r) old → All (λ r. IsRange (top_of w) r) new
  pub exact : (x : ℕ) → (holds new x ≡ true) ↔ ((holds old x ≡ true) ⊎ Reaches base name (has_number w x))
  pub some : (nat_lt 0 (length new) ≡ true) ↔ ((nat_lt 0 (length old) ≡ true) ⊎ Reaches base name (is_wanted w))

-- The same of the name that is defined at a place.
abbrev pub AddsAt : List Definition → ℕ → Wanted → List Range → List Range → Type 0
AddsAt base i w old new = (name : List ℕ) → index_of base name ≡ Some i → AddsReach base name w old new

-- What a name reaches whose definition has a mark lies among the ranges of each family.
pub record AreAdded (base : List Definition) (marks : List Bool) (v4 v6 : List Range) : Type 0 where
  pub fits : length marks ≡ length base
  pub ipv4 : (i : ℕ) → marked marks i ≡ true → AddsAt base i (Addresses V4) v4 v4
  pub ipv6 : (i : ℕ) → marked marks i ≡ true → AddsAt base i (Addresses V6) v6 v6

-- So it is whatever the ranges are, since none has a mark.
abbrev pub NoneAreAdded : List Definition → List Bool → Type 0
NoneAreAdded base marks = (v4 v6 : List Range) → AreAdded base marks v4 v6
