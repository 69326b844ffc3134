-- Whether a document is valid, test by test.
use Rattle.std.specs.Prelude.{ℕ, ◌-◌, Bool, true, ◌&&◌, nat_le, List, [], ◌∷◌, Option, None, Some}
use Rattle.std.specs.List.{list_all}
use Rattle.std.specs.Str.{bytes_eq}
use Rattle.acl_packet.specs.declared.addresses.Family.{Family}
use Rattle.acl_packet.specs.declared.addresses.Prefix.{Prefix}
use Rattle.acl_text.specs.Names.{is_safe_text}
use Rattle.acl_rows.specs.ApartSteps.{are_apart}
use Rattle.acl_rows.specs.PortRangeSteps.{is_port_range}
use Rattle.acl_rows.specs.PrefixCheckSteps.{is_addresses}
use Rattle.acl_rows.specs.RuleParts.{number_fits}
use Rattle.ipt_lang.specs.declared.documents.Section.{Section}
use Rattle.ipt_lang.specs.declared.documents.Chain.{Chain}
use Rattle.ipt_lang.specs.declared.documents.Rule.{Rule}
use Rattle.ipt_lang.specs.Documents.{weight_of, parts_fit, is_chain_name, chain_names}

-- The ranges have no more than that weight, one by one.
unfoldable pub has_room : ℕ → List (ℕ × ℕ) → Bool
has_room room [] = true
has_room room (r ∷ ranges) = nat_le (weight_of r) room && has_room (room - weight_of r) ranges

abbrev pub is_port_list : List (ℕ × ℕ) → Bool
is_port_list ranges = list_all is_port_range ranges && has_room 15 ranges

abbrev pub is_address : Family → Option Prefix → Bool
is_address family None = true
is_address family (Some p) = is_addresses family p

abbrev pub are_numbers : Rule → Bool
are_numbers r =
    number_fits 1 255 r.proto && (number_fits 0 254 r.itype && number_fits 0 255 r.icode)

abbrev pub are_addresses : Family → Rule → Bool
are_addresses family r = is_address family r.src && is_address family r.dst

abbrev pub are_ports : Rule → Bool
are_ports r = is_port_list r.sports && is_port_list r.dports

abbrev pub is_rule : Family → Rule → Bool
is_rule family r =
    (are_numbers r && are_addresses family r) && (are_ports r && parts_fit family r)

abbrev pub are_remarks : List (List ℕ) → Bool
are_remarks texts = list_all is_safe_text texts

abbrev pub is_chain : Family → Chain → Bool
is_chain family c =
    are_remarks c.remarks && (is_chain_name c.name && list_all (is_rule family) c.rules)

abbrev pub is_section : Section → Bool
is_section s = list_all (is_chain s.family) s.chains && are_apart bytes_eq (chain_names s.chains)
