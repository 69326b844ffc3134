-- Whether a document is valid, test by test.
use Rattle.std.specs.Prelude.{ℕ, Bool, true, false, not, ◌&&◌, nat_le, nat_lt, List, ◌∷◌, ◌++◌, Option, None, Some}
use Rattle.std.specs.Borrow.{Bor}
use Rattle.std.specs.List.{list_all}
use Rattle.std.specs.Str.{bytes_eq}
use Rattle.acl_packet.specs.declared.addresses.Family.{Family}
use Rattle.acl_packet.specs.declared.addresses.Family.TheVariants.{V4, V6}
use Rattle.acl_text.specs.Names.{is_name, is_filter_name, is_safe_text}
use Rattle.acl_rows.specs.ApartSteps.{are_apart}
use Rattle.acl_rows.specs.PortRangeSteps.{is_port_range}
use Rattle.acl_rows.specs.PrefixCheckSteps.{is_addresses}
use Rattle.acl_rows.specs.RuleParts.{is_empty}
use Rattle.junos_lang.specs.declared.documents.Section.{Section}
use Rattle.junos_lang.specs.declared.documents.JTerm.{JTerm}
use Rattle.junos_lang.specs.Documents.{family_word, parts_fit, term_names}

abbrev pub is_note : Option (List ℕ) → Bool
is_note None = true
is_note (Some text) = is_safe_text text

abbrev pub are_named : JTerm → Bool
are_named t = is_note t.note && is_name t.name

abbrev pub are_addresses : Family → JTerm → Bool
are_addresses family t = list_all (is_addresses family) t.src && list_all (is_addresses family) t.dst

abbrev pub are_ports : JTerm → Bool
are_ports t = list_all is_port_range t.sports && list_all is_port_range t.dports

abbrev pub are_numbers : JTerm → Bool
are_numbers t = list_all (λ n. nat_lt n 256) t.protos
    && (list_all (λ n. nat_le n 254) t.itypes && list_all (λ n. nat_lt n 256) t.icodes)

abbrev pub is_term : Family → JTerm → Bool
is_term family t = (are_named t && are_addresses family t)
    && (are_ports t && (are_numbers t && parts_fit family t))

abbrev pub is_section : Section → Bool
is_section s = (is_filter_name s.name && not (is_empty s.terms))
    && (list_all (is_term s.family) s.terms && are_apart bytes_eq (term_names s.terms))

-- The name of a section, from whether it is of IPv6 and its filter's name.
abbrev pub filter_name : Bool × Bor (List ℕ) → List ℕ
filter_name (false, name) = name.now ++ 32 ∷ family_word V4
filter_name (true, name) = name.now ++ 32 ∷ family_word V6
