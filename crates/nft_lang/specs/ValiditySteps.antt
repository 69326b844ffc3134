-- Whether sections are valid, test by test, and their tables apart.
use Rattle.std.specs.Prelude.{ℕ, ◌^◌, Bool, not, ◌&&◌, ◌==◌, nat_eq, nat_le, nat_lt, List}
use Rattle.std.specs.List.{list_all}
use Rattle.acl_packet.specs.declared.addresses.Family.{Family}
use Rattle.acl_packet.specs.declared.addresses.Families.{Families}
use Rattle.acl_packet.specs.declared.addresses.Prefix.{Prefix}
use Rattle.acl_packet.specs.Addresses.{covers, has_address}
use Rattle.acl_text.specs.Names.{is_safe_text}
use Rattle.acl_rows.specs.ApartSteps.{are_apart}
use Rattle.acl_rows.specs.PortRangeSteps.{is_port_range}
use Rattle.acl_rows.specs.PrefixCheckSteps.{is_addresses}
use Rattle.acl_rows.specs.RuleParts.{number_fits}
use Rattle.nft_lang.specs.declared.documents.Section.{Section}
use Rattle.nft_lang.specs.declared.documents.Item.{Item}
use Rattle.nft_lang.specs.declared.documents.Item.TheVariants.{Remark, Rule as ARule}
use Rattle.nft_lang.specs.declared.documents.Rule.{Rule}
use Rattle.nft_lang.specs.Documents.{fits_i32, parts_fit, ports_overlap, prefixes_overlap}

-- One prefix or range is below another. Then the two do not overlap, and what the other is
-- below does not overlap the one either.
abbrev pub prefix_below : Prefix → Prefix → Bool
prefix_below p q = nat_lt p.first q.first && not (has_address p q.first)

abbrev pub ports_below : ℕ × ℕ → ℕ × ℕ → Bool
ports_below a b = nat_lt a.1 b.0 && nat_le b.0 b.1

abbrev pub are_addresses : Family → List Prefix → Bool
are_addresses family ps = list_all (is_addresses family) ps && are_apart prefixes_overlap ps

abbrev pub are_ports : List (ℕ × ℕ) → Bool
are_ports ranges = list_all is_port_range ranges && are_apart ports_overlap ranges

abbrev pub are_numbers : ℕ → List ℕ → Bool
are_numbers most numbers = list_all (λ n. nat_le n most) numbers && are_apart nat_eq numbers

abbrev pub has_addresses : Rule → Bool
has_addresses r = are_addresses r.family r.src && are_addresses r.family r.dst

abbrev pub has_ports : Rule → Bool
has_ports r = are_ports r.sports && are_ports r.dports

abbrev pub has_icmp : Rule → Bool
has_icmp r = are_numbers 254 r.itypes && are_numbers 255 r.icodes

abbrev pub has_sets : Rule → Bool
has_sets r = has_addresses r && (has_ports r && has_icmp r)

abbrev pub is_rule : Families → Rule → Bool
is_rule families r = (covers families r.family && number_fits 1 255 r.proto)
    && (has_sets r && parts_fit r)

abbrev pub is_item : Families → Item → Bool
is_item families (Remark text) = is_safe_text text
is_item families (ARule r) = is_rule families r

abbrev pub is_section : Section → Bool
is_section s = (nat_lt s.number (2 ^ 32) && fits_i32 s.priority) && list_all (is_item s.families) s.items

-- Two tables of one name have one number.
abbrev pub same_table : Section → Section → Bool
same_table s t = s.number == t.number
