-- Ports of services lie in order, whatever naming files define them; so a name that reaches ports of a protocol
-- reaches some port.
use Rattle.std.specs.Prelude.{◌≢◌, ℕ, ◌≤◌, List, [], IfOk}
use Rattle.std.specs.List.{All}
use Rattle.acl_naming.specs.declared.item_words.NamingKind.TheVariants.{Services}
use Rattle.acl_naming.specs.declared.naming_items.Item.{Item}
use Rattle.acl_naming.specs.declared.naming_items.Item.TheVariants.{Name, Network, Service}
use Rattle.acl_naming.specs.ComputableReach.{ports_reached}
use Rattle.acl_naming.specs.Definitions.{Definition}
use Rattle.acl_naming.specs.NamingFiles.{file_added}
use Rattle.acl_naming.specs.Ports.{Ports, top_port}
use Rattle.acl_naming.specs.Reach.{ReachesProtocol}

-- The ports go from a low end to a high one, which is at most the highest port.
pub record AreInOrder (p : Ports) : Type 0 where
  pub ordered : p.low ≤ p.high
  pub fit : p.high ≤ top_port

-- Where the item is ports, they lie so.
abbrev pub IsInOrder : Item → Type 0
IsInOrder (Name r) = Unit {0}
IsInOrder (Network p) = Unit {0}
IsInOrder (Service p) = AreInOrder p

-- So do those of each item of each definition.
abbrev pub PortsAreOrdered : List Definition → Type 0
PortsAreOrdered services = All (λ d. All IsInOrder d.items) services

-- A name that reaches ports of a protocol reaches some port.
abbrev pub PortsAreSome : List Definition → Type 0
PortsAreSome services = (q : ℕ) (name : List ℕ) → ReachesProtocol services name q
    → ports_reached services q name ≢ []

-- ---- laws

-- A naming file of services keeps the order.
abbrev pub PortOrderIsKept : Type 0
PortOrderIsKept = (file : ℕ) (old : List Definition) (bytes : List ℕ) → PortsAreOrdered old
    → IfOk (file_added Services file old bytes) PortsAreOrdered

-- Where ports lie in order, what a name reaches is some port.
abbrev pub OrderedPortsAreSome : Type 0
OrderedPortsAreSome = (services : List Definition) → PortsAreOrdered services
    → PortsAreSome services
