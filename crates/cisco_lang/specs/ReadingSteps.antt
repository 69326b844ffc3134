-- Reading leniently: a draft that rows change, and that nothing refuses.
use Rattle.std.specs.Prelude.{ℕ, Bool, true, false, ◌==◌, if◌then◌else◌, List, [], ◌∷◌, ◌++◌, drop, codes, Option, None, Some, unwrap_or}
use Rattle.std.specs.List.{join_with_byte}
use Rattle.std.specs.Option.{option_map_or}
use Rattle.std.specs.Str.{bytes_eq}
use Rattle.acl_packet.specs.declared.addresses.Family.{Family}
use Rattle.acl_packet.specs.declared.addresses.Family.TheVariants.{V4, V6}
use Rattle.acl_packet.specs.declared.addresses.Families.{Families}
use Rattle.acl_packet.specs.declared.addresses.Families.TheVariants.{Inet, Mixed}
use Rattle.acl_packet.specs.Decimals.{number_in}
use Rattle.acl_packet.specs.Packets.{icmp_of}
use Rattle.acl_rows.specs.RowSteps.{begins_with, few_in}
use Rattle.acl_rows.specs.Rows.{Row}
use Rattle.acl_rows.specs.FamilyWords.{families_in}
use Rattle.cisco_lang.specs.AddressReading.{next_word, take_place}
use Rattle.cisco_lang.specs.declared.documents.Section.{Section}
use Rattle.cisco_lang.specs.declared.documents.AccessList.{AccessList}
use Rattle.cisco_lang.specs.declared.documents.Item.{Item}
use Rattle.cisco_lang.specs.declared.documents.Item.TheVariants.{Remark, Entry as AnEntry}
use Rattle.cisco_lang.specs.declared.documents.Entry.{Entry}
use Rattle.cisco_lang.specs.declared.documents.Flags.{Flags}
use Rattle.cisco_lang.specs.declared.documents.Flags.TheVariants.{Established, Rst, SynNotAck}
use Rattle.cisco_lang.specs.declared.lists_drafts.ListsDraft.{ListsDraft}

-- ---- the words of an entry, each told by its place

unfoldable pub proto_in : Family → List ℕ → Option ℕ
proto_in family w =
    if bytes_eq w (codes "tcp") then Some 6
    else if bytes_eq w (codes "udp") then Some 17
    else if bytes_eq w (codes "icmp") then Some (icmp_of family)
    else number_in 255 w

unfoldable pub take_port : List (List ℕ) → ℕ × List (List ℕ)
take_port words =
    let word = next_word words in
    (unwrap_or (number_in 65535 word.0) 0, word.1)

unfoldable pub take_ports : List (List ℕ) → Option (ℕ × ℕ) × List (List ℕ)
take_ports words =
    let word = next_word words in
    let low = take_port word.1 in
    let high = take_port low.1 in
    if bytes_eq word.0 (codes "eq") then (Some (low.0, low.0), low.1)
    else if bytes_eq word.0 (codes "range") then (Some (low.0, high.0), high.1)
    else (None, words)

-- A number that is at most the limit, where one stands there.
unfoldable pub take_number : ℕ → List (List ℕ) → Option ℕ × List (List ℕ)
take_number most words =
    let word = next_word words in
    option_map_or {U = Option ℕ × List (List ℕ)} (λ n. (Some n, word.1)) (number_in most word.0)
    (None, words)

unfoldable pub take_flags : List (List ℕ) → Option Flags × List (List ℕ)
take_flags words =
    let word = next_word words in
    if bytes_eq word.0 (codes "established") then (Some Established, word.1)
    else if bytes_eq word.0 (codes "rst") then (Some Rst, word.1)
    else if bytes_eq word.0 (codes "match-all")
    then (Some SynNotAck, (next_word (next_word word.1).1).1)
    else (None, words)

unfoldable pub entry_in : Family → List (List ℕ) → Entry
entry_in family words =
    let action = next_word words in
    let protocol = next_word action.1 in
    let src = take_place family protocol.1 in
    let sport = take_ports src.1 in
    let dst = take_place family sport.1 in
    let dport = take_ports dst.1 in
    let itype = take_number 254 dport.1 in
    let icode = take_number 255 itype.1 in
    let flags = take_flags icode.1 in
    record {
      permit = bytes_eq action.0 (codes "permit");
      proto = proto_in family protocol.0;
      src = src.0;
      sport = sport.0;
      dst = dst.0;
      dport = dport.0;
      itype = itype.0;
      icode = icode.0;
      flags = flags.0;
      log = bytes_eq (next_word flags.1).0 (codes "log");
    }

-- ---- the rows of a document

abbrev pub no_list : AccessList
no_list = record { family = V4; name = []; items = [] }

abbrev pub no_section : Section
no_section = record { name = []; families = Inet; lists = [] }

unfoldable pub item_in : Family → List (List ℕ) → Item
item_in family words =
    if begins_with (codes "remark") words then Remark (join_with_byte 32 (drop 1 words))
    else AnEntry (entry_in family words)

-- The list that ends is the last of its section: in a mixed one the IPv6 list is.
abbrev pub is_last : Families → Family → Bool
is_last Mixed V4 = false
is_last families family = true

abbrev pub end_section : Bool → ListsDraft → ListsDraft
end_section true d = record d { sections = d.sections ++ d.section ∷ []; section = no_section }
end_section false d = d

unfoldable pub end_list : ListsDraft → ListsDraft
end_list d = end_section (is_last d.section.families d.list.family) (record d {
  section = record d.section { lists = d.section.lists ++ d.list ∷ [] };
  list = no_list;
})

abbrev pub begin_list : ListsDraft → Family → List ℕ → ListsDraft
begin_list d family name = record d { list = record { family = family; name = name; items = [] } }

abbrev pub begin_section : ListsDraft → List ℕ → List ℕ → ListsDraft
begin_section d name kind =
    record d { section = record { name = name; families = families_in kind; lists = [] } }

-- A row of four words begins a section or an IPv4 list, or takes an IPv6 list away.
unfoldable pub take_four : ListsDraft → List ℕ → List ℕ → List ℕ → ListsDraft
take_four d w name kind =
    if bytes_eq w (codes "!") then begin_section d name kind
    else if bytes_eq w (codes "ip") then begin_list d V4 kind
    else d

unfoldable pub take_outer : ListsDraft → List (List ℕ) → ListsDraft
take_outer d (w ∷ []) = if bytes_eq w (codes "exit") then end_list d else d
take_outer d (w ∷ v ∷ name ∷ []) = begin_list d V6 name
take_outer d (w ∷ v ∷ name ∷ kind ∷ []) = take_four d w name kind
take_outer d words = d

unfoldable pub take_inner : ListsDraft → List (List ℕ) → ListsDraft
take_inner d words = record d {
  list = record d.list { items = d.list.items ++ item_in d.list.family words ∷ [] };
}

unfoldable pub take_row : ListsDraft → Row → ListsDraft
take_row d r = if r.indent == 0 then take_outer d (few_in r.words) else take_inner d r.words

abbrev pub no_draft : ListsDraft
no_draft = record { sections = []; section = no_section; list = no_list }
