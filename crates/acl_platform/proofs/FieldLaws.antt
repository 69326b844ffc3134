-- What a rule and a combination hold, part by part.
use Rattle.std.proofs.Common.{◌≡◌, Bool, true, false, ◌&&◌, refl, ap, ◌∙◌}
use Rattle.std.specs.List.{list_all}
use Rattle.acl_packet.specs.declared.packets.Packet.{Packet}
use Rattle.acl_packet.specs.AddressLists.{any_has}
use Rattle.acl_packet.specs.Addresses.{has_address}
use Rattle.acl_packet.specs.Packets.{icmp_fields, number_of}
use Rattle.acl_sets.specs.Ranges.{holds}
use Rattle.acl_platform.specs.declared.combinations.Combination.{Combination}
use Rattle.acl_platform.specs.declared.rules.Rule.{Rule}
use Rattle.acl_platform.specs.Choices.{in_range, is_chosen}
use Rattle.acl_platform.specs.Combinations.{combination_holds}
use Rattle.acl_platform.specs.Rules.{set_of, sets_hold}

turned : (src dst proto sport dport rest : Bool)
    → (src && (dst && (proto && (sport && (dport && rest))))) ≡ (proto && (src && (dst && (sport && (dport && rest)))))
turned false dst false sport dport rest = refl
turned false dst true sport dport rest = refl
turned true false false sport dport rest = refl
turned true false true sport dport rest = refl
turned true true false sport dport rest = refl
turned true true true sport dport rest = refl

and-true : (b : Bool) → (b && true) ≡ b
and-true true = refl
and-true false = refl

-- the fields of ICMP
abbrev pub icmp_held : Rule → Packet → Bool
icmp_held r p = list_all (λ field. holds (set_of field r).ranges (number_of field p)) icmp_fields

pub sets-parted : (r : Rule) (p : Packet) → sets_hold r p
    ≡ (holds r.protos.ranges p.proto && (any_has r.src p.src && (any_has r.dst p.dst
    && (holds r.sports.ranges p.sport && (holds r.dports.ranges p.dport && icmp_held r p)))))
sets-parted r p = turned (any_has r.src p.src) (any_has r.dst p.dst) (holds r.protos.ranges p.proto)
    (holds r.sports.ranges p.sport) (holds r.dports.ranges p.dport) (icmp_held r p)

pub sets-told : (r : Rule) (p : Packet) → sets_hold r p
    ≡ (holds r.protos.ranges p.proto && (any_has r.src p.src && (any_has r.dst p.dst
    && (holds r.sports.ranges p.sport && (holds r.dports.ranges p.dport
    && (holds r.itypes.ranges p.itype && holds r.icodes.ranges p.icode))))))
sets-told r p = sets-parted r p
    ∙ ap (λ t. holds r.protos.ranges p.proto && (any_has r.src p.src && (any_has r.dst p.dst
    && (holds r.sports.ranges p.sport && (holds r.dports.ranges p.dport && (holds r.itypes.ranges p.itype && t))))))
    (and-true (holds r.icodes.ranges p.icode))

pub combination-told : (p : Packet) (c : Combination) → combination_holds p c
    ≡ (is_chosen c.proto p.proto && (has_address c.src p.src && (has_address c.dst p.dst
    && (in_range c.sport p.sport && (in_range c.dport p.dport
    && (is_chosen c.itype p.itype && is_chosen c.icode p.icode))))))
combination-told p c =
    turned (has_address c.src p.src) (has_address c.dst p.dst) (is_chosen c.proto p.proto) (in_range c.sport p.sport)
    (in_range c.dport p.dport) (is_chosen c.itype p.itype && (is_chosen c.icode p.icode && true))
    ∙ ap (λ t. is_chosen c.proto p.proto && (has_address c.src p.src && (has_address c.dst p.dst
    && (in_range c.sport p.sport && (in_range c.dport p.dport && (is_chosen c.itype p.itype && t))))))
    (and-true (is_chosen c.icode p.icode))
