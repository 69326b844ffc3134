-- The sets of a term: they hold exactly the numbers that the words of the term name.
use Rattle.std.specs.Prelude.{◌≡◌, ◌≢◌, ◌↔◌, ℕ, ◌≤◌, true, []}
use Rattle.acl_packet.specs.declared.addresses.Family.{Family}
use Rattle.acl_packet.specs.declared.addresses.Family.TheVariants.{V4, V6}
use Rattle.acl_packet.specs.declared.packet_fields.Field.{Field}
use Rattle.acl_packet.specs.declared.packet_fields.Field.TheVariants.{Protocol, SourcePort, DestinationPort, IcmpType, IcmpCode}
use Rattle.acl_packet.specs.Addresses.{top_address}
use Rattle.acl_packet.specs.Packets.{top_of}
use Rattle.acl_sets.specs.Ranges.{Numbers, IsNormal, holds}
use Rattle.acl_policy.specs.RawTerms.{RawTerm}
use Rattle.acl_naming.specs.Definitions.{Naming}
use Rattle.acl_naming.specs.Ports.{top_port}
use Rattle.acl_terms.specs.Matching.{IsAddress, IsNamedAddress, IsNumber, IsPort, protocols_of}

-- The set holds, up to its top, exactly the numbers of which the fact holds.
pub record IsSetOf (P : ℕ → Type 0) (top : ℕ) (s : Numbers) : Type 0 where
  pub top_is : s.top ≡ top
  pub normal : IsNormal 0 s.top s.ranges
  pub exact : (x : ℕ) → x ≤ top → (holds s.ranges x ≡ true) ↔ P x

-- The addresses of a family: from which, to which, and those of either.
abbrev pub IsAddressSet : Naming → Family → RawTerm → Numbers → Numbers → Numbers → Type 0
IsAddressSet n f t src dst either =
    IsSetOf (IsAddress n f t.sources t.source_excludes) (top_address f) src
    × IsSetOf (IsAddress n f t.destinations t.destination_excludes) (top_address f) dst
    × IsSetOf (IsNamedAddress n f t.addresses) (top_address f) either

-- The sets of the fields, one after the other.
abbrev pub by_field : Numbers → Numbers → Numbers → Numbers → Numbers → Field → Numbers
by_field protos sports dports itypes icodes Protocol = protos
by_field protos sports dports itypes icodes SourcePort = sports
by_field protos sports dports itypes icodes DestinationPort = dports
by_field protos sports dports itypes icodes IcmpType = itypes
by_field protos sports dports itypes icodes IcmpCode = icodes

-- The sets of a term: addresses by family, the numbers of each field, and the ports of either side.
pub record Sets : Type 0 where
  pub src4 : Numbers
  pub src6 : Numbers
  pub dst4 : Numbers
  pub dst6 : Numbers
  pub addr4 : Numbers
  pub addr6 : Numbers
  pub numbers : Field → Numbers
  pub ports : Numbers

pub record AreSetsOf (n : Naming) (t : RawTerm) (s : Sets) : Type 0 where
  pub ipv4 : IsAddressSet n V4 t s.src4 s.dst4 s.addr4
  pub ipv6 : IsAddressSet n V6 t s.src6 s.dst6 s.addr6
  pub numbers_are : (field : Field) → IsSetOf (IsNumber n t field) (top_of field) (s.numbers field)
  pub either_ports : IsSetOf (IsPort n (protocols_of t.protocols) t.ports) top_port s.ports
  -- some protocol is named wherever ports are
  pub some_from : (s.numbers SourcePort).ranges ≢ []
  pub some_to : (s.numbers DestinationPort).ranges ≢ []
  pub some_of_either : s.ports.ranges ≢ []
