-- The combinations of a rule: an entry takes one choice of each of its parts.
use Rattle.std.specs.Prelude.{◌≡◌, ◌≢◌, ℕ, ◌≤◌, Bool, ◌&&◌, List, [], Option, map}
use Rattle.std.specs.List.{list_all, list_any}
use Rattle.acl_packet.specs.declared.addresses.Families.{Families}
use Rattle.acl_packet.specs.declared.addresses.Prefix.{Prefix}
use Rattle.acl_packet.specs.declared.packet_fields.Field.{Field}
use Rattle.acl_packet.specs.declared.packet_fields.Field.TheVariants.{Protocol, SourcePort, DestinationPort, IcmpType, IcmpCode}
use Rattle.acl_packet.specs.declared.packets.Packet.{Packet}
use Rattle.acl_packet.specs.Addresses.{has_address}
use Rattle.acl_packet.specs.Packets.{IsPacket, fields, number_of, top_of}
use Rattle.acl_target.specs.declared.targets.Kind.{Kind}
use Rattle.acl_platform.specs.declared.combinations.Combination.{Combination}
use Rattle.acl_platform.specs.declared.rules.Rule.{Rule}
use Rattle.acl_platform.specs.Choices.{in_range, is_chosen, number_choices, pairs, range_choices}
use Rattle.acl_platform.specs.Rules.{set_of, sets_hold}
use Rattle.acl_platform.specs.SoundFilters.{IsSoundRule}

-- Protocol, source, destination, source ports, destination ports, type, and code, the protocol outermost.
abbrev pub Parts : Type 0
Parts = Option ℕ × (Prefix × (Prefix × (Option (ℕ × ℕ) × (Option (ℕ × ℕ) × (Option ℕ × Option ℕ)))))

abbrev pub combination_of : Parts → Combination
combination_of c = record {
  proto = c.0;
  src = c.1.0;
  dst = c.1.1.0;
  sport = c.1.1.1.0;
  dport = c.1.1.1.1.0;
  itype = c.1.1.1.1.1.0;
  icode = c.1.1.1.1.1.1;
}

-- The tops of a rule's sets are within those of their fields.
pub record IsSized (r : Rule) : Type 0 where
  pub tops : (field : Field) → (set_of field r).top ≤ top_of field

abbrev pub parts_of : Rule → List Parts
parts_of r = pairs (number_choices r.protos) (pairs r.src (pairs r.dst
    (pairs (range_choices r.sports) (pairs (range_choices r.dports)
    (pairs (number_choices r.itypes) (number_choices r.icodes))))))

abbrev pub combinations : Rule → List Combination
combinations r = map combination_of (parts_of r)

-- Whether a combination has the number of a field.
abbrev pub takes_number : Combination → Field → ℕ → Bool
takes_number c Protocol number = is_chosen c.proto number
takes_number c SourcePort number = in_range c.sport number
takes_number c DestinationPort number = in_range c.dport number
takes_number c IcmpType number = is_chosen c.itype number
takes_number c IcmpCode number = is_chosen c.icode number

-- A combination holds a packet where it has its addresses, and its number of each field.
abbrev pub combination_holds : Packet → Combination → Bool
combination_holds p c = has_address c.src p.src && (has_address c.dst p.dst
    && list_all (λ field. takes_number c field (number_of field p)) fields)

-- Some combination of a rule holds a packet exactly where each of its sets does.
abbrev pub CombinationsHold : Type 0
CombinationsHold = (kind : Kind) (families : Families) (r : Rule) (p : Packet)
    → IsSoundRule kind families r → IsPacket p
    → list_any (combination_holds p) (combinations r) ≡ sets_hold r p

-- A sound rule has a combination.
abbrev pub SomeCombination : Type 0
SomeCombination = (kind : Kind) (families : Families) (r : Rule) → IsSoundRule kind families r
    → combinations r ≢ []
