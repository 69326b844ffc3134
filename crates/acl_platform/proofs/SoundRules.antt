-- What follows from a rule's soundness.
use Rattle.std.proofs.Common.{ℕ, ◌≤◌, List, [], ◌∷◌, arith}
use Rattle.std.specs.List.{All, AllByRecursion}
use Rattle.std.proofs.lemmas.List.Elements.{All-from_recursion}
use Rattle.acl_packet.specs.declared.addresses.Families.{Families}
use Rattle.acl_packet.specs.declared.packet_fields.Field.{Field}
use Rattle.acl_packet.specs.declared.packet_fields.Field.TheVariants.{Protocol, SourcePort, DestinationPort, IcmpType, IcmpCode}
use Rattle.acl_packet.specs.declared.packets.Packet.{Packet}
use Rattle.acl_packet.specs.Packets.{IsPacket, number_of, top_of}
use Rattle.acl_packet.proofs.FieldLaws.{by-field}
use Rattle.acl_sets.specs.Ranges.{Numbers}
use Rattle.acl_target.specs.declared.targets.Kind.{Kind}
use Rattle.acl_platform.specs.declared.filters.Filter.{Filter}
use Rattle.acl_platform.specs.declared.rules.Rule.{Rule}
use Rattle.acl_platform.specs.Combinations.{IsSized}
use Rattle.acl_platform.specs.Rules.{set_of}
use Rattle.acl_platform.specs.SoundFilters.{IsFull, IsSound, IsSoundRule}

below : (top : ℕ) (s : Numbers) → IsFull top s → s.top ≤ top
below top s h = let e = h.top_is in omega (arith, e)

pub sized : (kind : Kind) (families : Families) (r : Rule) → IsSoundRule kind families r → IsSized r
sized kind families r h = record { tops = λ field. below (top_of field) (set_of field r) (h.numbers field) }

pub sized_by : (r : Rule) → r.protos.top ≤ 255 → r.sports.top ≤ 65535 → r.dports.top ≤ 65535 → r.itypes.top ≤ 255
    → r.icodes.top ≤ 255 → IsSized r
sized_by r a b c d e = record { tops = by-field (λ field. (set_of field r).top ≤ top_of field) a b c d e }

pub protocols_small : (r : Rule) → IsSized r → r.protos.top ≤ 255
protocols_small r h = h.tops Protocol

pub source_ports_small : (r : Rule) → IsSized r → r.sports.top ≤ 65535
source_ports_small r h = h.tops SourcePort

pub destination_ports_small : (r : Rule) → IsSized r → r.dports.top ≤ 65535
destination_ports_small r h = h.tops DestinationPort

pub types_small : (r : Rule) → IsSized r → r.itypes.top ≤ 255
types_small r h = h.tops IcmpType

pub codes_small : (r : Rule) → IsSized r → r.icodes.top ≤ 255
codes_small r h = h.tops IcmpCode

each_sized : (kind : Kind) (families : Families) (rules : List Rule) → AllByRecursion (IsSoundRule kind families) rules
    → AllByRecursion IsSized rules
each_sized kind families [] h = tt
each_sized kind families (r ∷ rules) h = (sized kind families r h.0, each_sized kind families rules h.1)

pub all_sized : (f : Filter) → IsSound f → All IsSized f.rules
all_sized f h = All-from_recursion IsSized f.rules (each_sized f.kind f.families f.rules h.rules)

-- the numbers of a packet are within the tops of the sets
pub in-tops : (kind : Kind) (families : Families) (r : Rule) (p : Packet) → IsSoundRule kind families r → IsPacket p
    → (field : Field) → number_of field p ≤ (set_of field r).top
in-tops kind families r p h k field =
    let full = h.numbers field in
    let top = full.top_is in
    let n = k.numbers field in
    omega (arith, top, n)
