-- Whether a section is valid, test by test, and whether no two have the same number.
use Rattle.std.specs.Prelude.{Bool, ◌&&◌, ◌==◌, nat_le}
use Rattle.std.specs.List.{list_all}
use Rattle.acl_packet.specs.declared.addresses.Family.TheVariants.{V4}
use Rattle.acl_text.specs.Names.{is_safe_text}
use Rattle.acl_rows.specs.PrefixCheckSteps.{is_prefix_of}
use Rattle.std_lang.specs.declared.documents.Section.{Section}
use Rattle.std_lang.specs.declared.documents.Item.{Item}
use Rattle.std_lang.specs.declared.documents.Item.TheVariants.{Remark, Entry as AnEntry}

abbrev pub is_item : Item → Bool
is_item (Remark text) = is_safe_text text
is_item (AnEntry e) = is_prefix_of V4 e.src

abbrev pub is_section : Section → Bool
is_section s = (nat_le 1 s.number && nat_le s.number 99) && list_all is_item s.items

-- Two sections have the list of one number.
abbrev pub same_list : Section → Section → Bool
same_list s t = s.number == t.number
