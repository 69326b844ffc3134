-- The text of a document of Cisco IOS access lists.
-- Sources: Cisco IOS Security Command Reference, "access-list (IP extended)", "ip access-list" and
-- "remark";
-- Cisco IOS IPv6 Command Reference, "ipv6 access-list", "permit (IPv6)" and "deny (IPv6)".
use Rattle.std.specs.Prelude.{ℕ, Bool, true, false, ◌==◌, if◌then◌else◌, List, [], ◌∷◌, ◌++◌, flat_map, codes, Option, None, Some}
use Rattle.std.specs.Fmt.{decimal}
use Rattle.acl_packet.specs.declared.addresses.Family.{Family}
use Rattle.acl_packet.specs.declared.addresses.Family.TheVariants.{V4, V6}
use Rattle.acl_packet.specs.declared.addresses.Families.{Families}
use Rattle.acl_packet.specs.declared.addresses.Families.TheVariants.{Inet, Inet6, Mixed}
use Rattle.acl_packet.specs.declared.addresses.Prefix.{Prefix}
use Rattle.acl_packet.specs.Addresses.{width_of}
use Rattle.acl_text.specs.AddressTexts.{address_text, prefix_text, wildcard_text}
use Rattle.acl_rows.specs.RuleParts.{log_words}
use Rattle.cisco_lang.specs.declared.documents.Section.{Section}
use Rattle.cisco_lang.specs.declared.documents.AccessList.{AccessList}
use Rattle.cisco_lang.specs.declared.documents.Item.{Item}
use Rattle.cisco_lang.specs.declared.documents.Item.TheVariants.{Remark, Entry as AnEntry}
use Rattle.cisco_lang.specs.declared.documents.Entry.{Entry}
use Rattle.cisco_lang.specs.declared.documents.Flags.{Flags}
use Rattle.cisco_lang.specs.declared.documents.Flags.TheVariants.{Established, Rst, SynNotAck}
use Rattle.acl_packet.specs.Packets.{icmp_of}
use Rattle.acl_rows.specs.Documents.{IsSpelling}
use Rattle.acl_rows.specs.Rows.{Row, row, words_in, text_of_rows}
use Rattle.cisco_lang.specs.Documents.{IsDocument}

abbrev pub action_word : Bool → List ℕ
action_word true = codes "permit"
action_word false = codes "deny"

-- The word for all protocols, and that for one.
abbrev pub any_word : Family → List ℕ
any_word V4 = codes "ip"
any_word V6 = codes "ipv6"

unfoldable pub proto_word : Family → Option ℕ → List ℕ
proto_word family None = any_word family
proto_word family (Some n) =
    if n == 6 then codes "tcp"
    else if n == 17 then codes "udp"
    else if n == icmp_of family then codes "icmp"
    else decimal n

-- An address and its wildcard, whose set bits are ignored; in IPv6 an address and its length.
abbrev pub masked_words : Family → Prefix → List (List ℕ)
masked_words V4 p = address_text V4 p.first ∷ wildcard_text p.len ∷ []
masked_words V6 p = prefix_text p ∷ []

unfoldable pub address_words : Family → Prefix → List (List ℕ)
address_words family p =
    if p.len == 0 then codes "any" ∷ []
    else if p.len == width_of family then codes "host" ∷ address_text family p.first ∷ []
    else masked_words family p

unfoldable pub ports_words : Option (ℕ × ℕ) → List (List ℕ)
ports_words None = []
ports_words (Some p) =
    if p.0 == p.1 then codes "eq" ∷ decimal p.0 ∷ []
    else codes "range" ∷ decimal p.0 ∷ decimal p.1 ∷ []

-- A type of ICMP, or a code.
unfoldable pub number_words : Option ℕ → List (List ℕ)
number_words None = []
number_words (Some n) = decimal n ∷ []

unfoldable pub flags_words : Option Flags → List (List ℕ)
flags_words None = []
flags_words (Some Established) = codes "established" ∷ []
flags_words (Some Rst) = codes "rst" ∷ []
flags_words (Some SynNotAck) = codes "match-all" ∷ codes "+syn" ∷ codes "-ack" ∷ []

-- An end of the packets, where they come from or go to, is an address and its ports.
unfoldable pub end_words : Family → Prefix → Option (ℕ × ℕ) → List (List ℕ)
end_words family p ports = address_words family p ++ ports_words ports

-- What is written of ICMP is a type, and a code behind it: `[icmp-type [icmp-code]]`.
unfoldable pub icmp_words : Option ℕ → Option ℕ → List (List ℕ)
icmp_words itype icode = number_words itype ++ number_words icode

-- The words of an entry of a list of the family.
unfoldable pub entry_words : Family → Entry → List (List ℕ)
entry_words family e = action_word e.permit ∷ proto_word family e.proto
    ∷ (end_words family e.src e.sport ++ (end_words family e.dst e.dport
    ++ (icmp_words e.itype e.icode ++ (flags_words e.flags ++ log_words e.log))))

-- A remark is a free text, an entry its words.
unfoldable pub item_rows : Family → Item → List Row
item_rows family (Remark text) = row 1 (codes "remark" ∷ words_in text) ∷ []
item_rows family (AnEntry e) = row 1 (entry_words family e) ∷ []

-- The row that begins a list, behind one that takes an older list of that name away.
abbrev pub head_words : Family → List ℕ → List (List ℕ)
head_words V4 name = codes "ip" ∷ codes "access-list" ∷ codes "extended" ∷ name ∷ []
head_words V6 name = codes "ipv6" ∷ codes "access-list" ∷ name ∷ []

abbrev pub head_rows : Family → List ℕ → List Row
head_rows family name =
    row 0 (codes "no" ∷ head_words family name) ∷ row 0 (head_words family name) ∷ []

abbrev pub end_rows : List Row
end_rows = row 0 (codes "exit" ∷ []) ∷ []

unfoldable pub list_rows : AccessList → List Row
list_rows l = head_rows l.family l.name ++ (flat_map (item_rows l.family) l.items ++ end_rows)

abbrev pub families_word : Families → List ℕ
families_word Inet = codes "extended"
families_word Inet6 = codes "inet6"
families_word Mixed = codes "mixed"

-- A section begins with a comment that names its target.
abbrev pub section_row : List ℕ → Families → Row
section_row name families = row 0 (codes "!" ∷ codes "cisco" ∷ name ∷ families_word families ∷ [])

unfoldable pub section_rows : Section → List Row
section_rows s = section_row s.name s.families ∷ flat_map list_rows s.lists

-- The text of a document is its sections, one behind another.
abbrev pub text_of : List Section → List ℕ
text_of doc = text_of_rows (flat_map section_rows doc)

-- The bytes spell the document: it is valid, and they are its text.
abbrev pub Spells : List ℕ → List Section → Type 0
Spells bytes doc = IsSpelling IsDocument text_of bytes doc
