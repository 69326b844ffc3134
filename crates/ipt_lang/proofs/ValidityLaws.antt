-- The tests of a section say what a valid one is.
use Rattle.std.proofs.Common.{◌≡◌, ℕ, ◌+◌, ◌-◌, ◌≤◌, Bool, true, ◌&&◌, nat_le, List, [], ◌∷◌, map, flat_map, Option, None, Some, IfSome, refl, ap, subst, arith}
use Rattle.std.specs.Bool.{Decides}
use Rattle.std.specs.List.{list_all, IsDistinct}
use Rattle.std.specs.Str.{bytes_eq}
use Rattle.std.proofs.lemmas.List.Sums.{sum_by-cons}
use Rattle.std.proofs.lemmas.Bool.Decides.{Decides-and, Decides-like}
use Rattle.acl_packet.specs.declared.addresses.Family.{Family}
use Rattle.acl_packet.specs.declared.addresses.Prefix.{Prefix}
use Rattle.acl_text.specs.Names.{is_safe_text}
use Rattle.acl_rows.specs.ApartSteps.{are_apart}
use Rattle.acl_rows.specs.PortRangeSteps.{is_port_range}
use Rattle.acl_rows.specs.RuleParts.{IsAddresses, number_fits}
use Rattle.acl_rows.proofs.DecisionLaws.{addresses_decide, le_decides, number_decides, type_decides, all_decides}
use Rattle.acl_rows.proofs.ApartLaws.{apart_decides}
use Rattle.acl_rows.proofs.PortRangeLaws.{ranges_decide}
use Rattle.ipt_lang.specs.declared.documents.Section.{Section}
use Rattle.ipt_lang.specs.declared.documents.Chain.{Chain}
use Rattle.ipt_lang.specs.declared.documents.Rule.{Rule}
use Rattle.ipt_lang.specs.Documents.{weight_of, weight, IsPortList, parts_fit, IsRule, is_chain_name, IsRemark, IsChain, chain_names, IsSection, name_of, hook_names}
use Rattle.ipt_lang.specs.ValiditySteps.{has_room, is_port_list, is_address, are_numbers, are_addresses, are_ports, is_rule, are_remarks, is_chain, is_section}

is_itself : (b : Bool) → Decides b (b ≡ true)
is_itself b = (λ h. h, λ h. h)

-- ---- rules

room_decides : (ranges : List (ℕ × ℕ)) (room : ℕ) → Decides (has_room room ranges) (weight ranges ≤ room)
unfolding has_room
room_decides [] room = (λ h. omega arith, λ h. refl)
room_decides (r ∷ ranges) room =
    let n = weight_of r in
    let rest = weight ranges in
    let all : weight (r ∷ ranges) ≡ n + rest = sum_by-cons weight_of r ranges in
    Decides-like (has_room room (r ∷ ranges))
    (λ h. let small : n ≤ room = h.0 in let light : rest ≤ room - n = h.1 in omega (arith, all, small, light))
    (λ h. (omega (arith, all, h), omega (arith, all, h)))
    (Decides-and (nat_le n room) (has_room (room - n) ranges) (le_decides n room) (room_decides ranges (room - n)))

list_decides : (ranges : List (ℕ × ℕ)) → Decides (is_port_list ranges) (IsPortList ranges)
list_decides ranges =
    Decides-like (is_port_list ranges) (λ h. record { each = h.0; light = h.1 }) (λ h. (h.each, h.light))
    (Decides-and (list_all is_port_range ranges) (has_room 15 ranges) (ranges_decide ranges) (room_decides ranges 15))

address_decides : (f : Family) (o : Option Prefix) → Decides (is_address f o) (IfSome o (IsAddresses f))
address_decides f None = (λ h. tt, λ h. refl)
address_decides f (Some p) = addresses_decide f p

code_decides : (o : Option ℕ) → Decides (number_fits 0 255 o) (IfSome o (λ n. n ≤ 255))
code_decides None = (λ h. tt, λ h. refl)
code_decides (Some n) = Decides-like (number_fits 0 255 (Some n)) (λ h. h.1) (λ h. (omega arith, h)) (number_decides 0 255 (Some n))

pub rule_decides : (f : Family) (r : Rule) → Decides (is_rule f r) (IsRule f r)
rule_decides f r =
    let icmp = Decides-and (number_fits 0 254 r.itype) (number_fits 0 255 r.icode) (type_decides r.itype) (code_decides r.icode) in
    let numbers = Decides-and (number_fits 1 255 r.proto) (number_fits 0 254 r.itype && number_fits 0 255 r.icode) (number_decides 1 255 r.proto) icmp in
    let addresses = Decides-and (is_address f r.src) (is_address f r.dst) (address_decides f r.src) (address_decides f r.dst) in
    let ports = Decides-and (is_port_list r.sports) (is_port_list r.dports) (list_decides r.sports) (list_decides r.dports) in
    Decides-like (is_rule f r)
    (λ h. record {
      protocol = h.0.0.0;
      source = h.0.1.0;
      destination = h.0.1.1;
      source_ports = h.1.0.0;
      destination_ports = h.1.0.1;
      icmp_type = h.0.0.1.0;
      icmp_code = h.0.0.1.1;
      fit = h.1.1;
    })
    (λ h. (((h.protocol, (h.icmp_type, h.icmp_code)), (h.source, h.destination)), ((h.source_ports, h.destination_ports), h.fit)))
    (Decides-and (are_numbers r && are_addresses f r) (are_ports r && parts_fit f r)
    (Decides-and (are_numbers r) (are_addresses f r) numbers addresses)
    (Decides-and (are_ports r) (parts_fit f r) ports (is_itself (parts_fit f r))))

-- ---- chains and sections

chain_decides : (f : Family) (c : Chain) → Decides (is_chain f c) (IsChain f c)
chain_decides f c =
    let remarks = all_decides is_safe_text IsRemark (λ text. is_itself (is_safe_text text)) c.remarks in
    let rules = all_decides (is_rule f) (IsRule f) (rule_decides f) c.rules in
    Decides-like (is_chain f c) (λ h. record { remarks = h.0; named = h.1.0; rules = h.1.1 }) (λ h. (h.remarks, (h.named, h.rules)))
    (Decides-and (are_remarks c.remarks) (is_chain_name c.name && list_all (is_rule f) c.rules) remarks
    (Decides-and (is_chain_name c.name) (list_all (is_rule f) c.rules) (is_itself (is_chain_name c.name)) rules))

pub section_decides : (s : Section) → Decides (is_section s) (IsSection s)
section_decides s =
    Decides-like (is_section s) (λ h. record { chains = h.0; names_differ = h.1 }) (λ h. (h.chains, h.names_differ))
    (Decides-and (list_all (is_chain s.family) s.chains) (are_apart bytes_eq (chain_names s.chains))
    (all_decides (is_chain s.family) (IsChain s.family) (chain_decides s.family) s.chains) (apart_decides bytes_eq (chain_names s.chains)))

one_each : (doc : List Section) → map name_of doc ≡ flat_map hook_names doc
one_each [] = refl
one_each (s ∷ doc) = ap (λ names. name_of s ∷ names) (one_each doc)

pub hook_names_decide : (doc : List Section) → Decides (are_apart bytes_eq (map name_of doc)) (IsDistinct bytes_eq (flat_map hook_names doc))
hook_names_decide doc =
    subst (λ names. Decides (are_apart bytes_eq (map name_of doc)) (IsDistinct bytes_eq names)) (one_each doc) (apart_decides bytes_eq (map name_of doc))
