-- Whether a document is valid, test by test.
use Rattle.std.specs.Prelude.{ℕ, Bool, true, false, ◌&&◌, List, [], ◌∷◌, ◌++◌, codes, Option, None, Some}
use Rattle.std.specs.List.{list_all}
use Rattle.std.specs.Str.{bytes_eq}
use Rattle.acl_packet.specs.declared.addresses.Family.{Family}
use Rattle.acl_packet.specs.declared.addresses.Family.TheVariants.{V4, V6}
use Rattle.acl_packet.specs.declared.addresses.Families.{Families}
use Rattle.acl_packet.specs.declared.addresses.Families.TheVariants.{Inet, Inet6, Mixed}
use Rattle.acl_packet.specs.declared.addresses.Prefix.{Prefix}
use Rattle.acl_packet.specs.Addresses.{same_family}
use Rattle.acl_text.specs.Names.{is_filter_name, is_safe_text}
use Rattle.acl_rows.specs.PortRangeSteps.{is_port_range}
use Rattle.acl_rows.specs.PrefixCheckSteps.{is_prefix_of}
use Rattle.acl_rows.specs.RuleParts.{number_fits}
use Rattle.cisco_lang.specs.declared.documents.Section.{Section}
use Rattle.cisco_lang.specs.declared.documents.AccessList.{AccessList}
use Rattle.cisco_lang.specs.declared.documents.Item.{Item}
use Rattle.cisco_lang.specs.declared.documents.Item.TheVariants.{Remark, Entry as AnEntry}
use Rattle.cisco_lang.specs.declared.documents.Entry.{Entry}
use Rattle.cisco_lang.specs.Documents.{parts_fit}

abbrev pub are_ports : Option (ℕ × ℕ) → Bool
are_ports None = true
are_ports (Some ports) = is_port_range ports

abbrev pub is_end : Family → Prefix → Option (ℕ × ℕ) → Bool
is_end family p ports = is_prefix_of family p && are_ports ports

abbrev pub are_numbers : Entry → Bool
are_numbers e = number_fits 1 255 e.proto
    && (number_fits 0 254 e.itype && number_fits 0 255 e.icode)

abbrev pub is_entry : Family → Entry → Bool
is_entry family e = (is_end family e.src e.sport && is_end family e.dst e.dport)
    && (are_numbers e && parts_fit family e)

abbrev pub is_item : Family → Item → Bool
is_item family (Remark text) = is_safe_text text
is_item family (AnEntry e) = is_entry family e

abbrev pub is_list : AccessList → Bool
is_list l = list_all (is_item l.family) l.items

abbrev pub is_headed : AccessList → Family → List ℕ → Bool
is_headed l family name = same_family l.family family && bytes_eq l.name name

abbrev pub are_headed : List AccessList → Families → List ℕ → Bool
are_headed (l ∷ []) Inet name = is_headed l V4 name
are_headed (l ∷ []) Inet6 name = is_headed l V6 name
are_headed (l ∷ m ∷ []) Mixed name = is_headed l V4 name && is_headed m V6 (codes "ipv6-" ++ name)
are_headed lists families name = false

abbrev pub is_section : Section → Bool
is_section s = is_filter_name s.name
    && (are_headed s.lists s.families s.name && list_all is_list s.lists)
