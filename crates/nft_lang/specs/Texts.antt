-- The text of a document of nftables rules.
-- Source: nft(8), "INPUT FILE FORMATS", "TABLES", "CHAINS", "RULES", "PAYLOAD EXPRESSIONS" (for ICMP,
-- "ICMP HEADER EXPRESSION"), "META EXPRESSIONS", "CONNTRACK EXPRESSIONS", "STATEMENTS".
use Rattle.std.specs.Prelude.{ℕ, Bool, true, false, ◌==◌, if◌then◌else◌, ℤ, List, [], ◌∷◌, ◌++◌, map, flat_map, codes, Option, None, Some}
use Rattle.std.specs.Fmt.{decimal, signed_decimal}
use Rattle.acl_packet.specs.declared.addresses.Family.{Family}
use Rattle.acl_packet.specs.declared.addresses.Family.TheVariants.{V4, V6}
use Rattle.acl_packet.specs.declared.addresses.Families.{Families}
use Rattle.acl_packet.specs.declared.addresses.Families.TheVariants.{Inet, Inet6, Mixed}
use Rattle.acl_packet.specs.declared.addresses.Prefix.{Prefix}
use Rattle.acl_packet.specs.declared.filtering.Hook.{Hook}
use Rattle.acl_packet.specs.declared.filtering.Hook.TheVariants.{Input, Output, Forward}
use Rattle.acl_packet.specs.declared.filtering.Verdict.{Verdict}
use Rattle.acl_packet.specs.declared.filtering.Verdict.TheVariants.{Accept, Deny, Reject, Reset, Left}
use Rattle.acl_text.specs.AddressTexts.{prefix_text}
use Rattle.acl_rows.specs.Documents.{IsSpelling}
use Rattle.acl_rows.specs.PortRanges.{range_text}
use Rattle.acl_rows.specs.Rows.{Row, row, words_in, text_of_rows}
use Rattle.acl_rows.specs.RuleParts.{log_words}
use Rattle.nft_lang.specs.declared.documents.Section.{Section}
use Rattle.nft_lang.specs.declared.documents.Item.{Item}
use Rattle.nft_lang.specs.declared.documents.Item.TheVariants.{Remark, Rule as ARule}
use Rattle.nft_lang.specs.declared.documents.Rule.{Rule}
use Rattle.nft_lang.specs.declared.documents.Flags.{Flags}
use Rattle.nft_lang.specs.declared.documents.Flags.TheVariants.{Rst, SynNotAck}
use Rattle.nft_lang.specs.Documents.{IsDocument, table_name}

-- ---- sets

-- Words, each but the last with a comma behind it.
unfoldable pub with_commas : List (List ℕ) → List (List ℕ)
with_commas [] = []
with_commas (w ∷ []) = w ∷ []
with_commas (w ∷ v ∷ words) = (w ++ codes ",") ∷ with_commas (v ∷ words)

-- A set stands in braces behind what is matched, as `tcp dport { 80, 443 }`. One without elements is
-- not written.
unfoldable pub set_words : List ℕ → List ℕ → List (List ℕ) → List (List ℕ)
set_words front key [] = []
set_words front key (w ∷ words) =
    front ∷ key ∷ codes "{" ∷ (with_commas (w ∷ words) ++ codes "}" ∷ [])

-- Ports are one number, or the low and the high one with a `-` between.
abbrev pub ports_word : ℕ × ℕ → List ℕ
ports_word ports = range_text 45 ports

-- ---- rules

-- The family is written in tables of both families.
abbrev pub family_word : Family → List ℕ
family_word V4 = codes "ipv4"
family_word V6 = codes "ipv6"

unfoldable pub family_words : Families → Family → List (List ℕ)
family_words Mixed family = codes "meta" ∷ codes "nfproto" ∷ family_word family ∷ []
family_words families family = []

unfoldable pub proto_words : Option ℕ → List (List ℕ)
proto_words None = []
proto_words (Some n) = codes "meta" ∷ codes "l4proto" ∷ decimal n ∷ []

abbrev pub address_word : Family → List ℕ
address_word V4 = codes "ip"
address_word V6 = codes "ip6"

abbrev pub icmp_word : Family → List ℕ
icmp_word V4 = codes "icmp"
icmp_word V6 = codes "icmpv6"

-- The protocol that ports are of: TCP is 6, UDP 17 and SCTP 132.
unfoldable pub port_word : Option ℕ → List ℕ
port_word None = codes "tcp"
port_word (Some n) =
    if n == 17 then codes "udp" else if n == 132 then codes "sctp" else codes "tcp"

unfoldable pub flags_words : Option Flags → List (List ℕ)
flags_words None = []
flags_words (Some Rst) =
    codes "tcp" ∷ codes "flags" ∷ codes "&" ∷ codes "rst" ∷ codes "==" ∷ codes "rst" ∷ []
flags_words (Some SynNotAck) = codes "tcp" ∷ codes "flags" ∷ codes "&" ∷ codes "(syn" ∷ codes "|"
    ∷ codes "ack)" ∷ codes "==" ∷ codes "syn" ∷ []

unfoldable pub state_words : Bool → List (List ℕ)
state_words true =
    codes "ct" ∷ codes "state" ∷ codes "{" ∷ codes "established," ∷ codes "related" ∷ codes "}" ∷ []
state_words false = []

-- No rule that is valid leaves a packet undecided.
unfoldable pub verdict_words : Verdict → List (List ℕ)
verdict_words Accept = codes "accept" ∷ []
verdict_words Deny = codes "drop" ∷ []
verdict_words Reject = codes "reject" ∷ []
verdict_words Reset = codes "reject" ∷ codes "with" ∷ codes "tcp" ∷ codes "reset" ∷ []
verdict_words Left = codes "drop" ∷ []

unfoldable pub addresses_words : Family → List Prefix → List Prefix → List (List ℕ)
addresses_words family src dst =
    set_words (address_word family) (codes "saddr") (map prefix_text src)
    ++ set_words (address_word family) (codes "daddr") (map prefix_text dst)

unfoldable pub ports_words : Option ℕ → List (ℕ × ℕ) → List (ℕ × ℕ) → List (List ℕ)
ports_words proto sports dports =
    set_words (port_word proto) (codes "sport") (map ports_word sports)
    ++ set_words (port_word proto) (codes "dport") (map ports_word dports)

-- Types or codes of ICMP, behind their key.
abbrev pub icmp_set_words : Family → List ℕ → List ℕ → List (List ℕ)
icmp_set_words family key numbers = set_words (icmp_word family) key (map (λ n. decimal n) numbers)

-- A code stands behind its type, as `icmp type { 3 } icmp code { 3, 4 }`.
unfoldable pub icmp_words : Family → List ℕ → List ℕ → List (List ℕ)
icmp_words family itypes icodes =
    icmp_set_words family (codes "type") itypes ++ icmp_set_words family (codes "code") icodes

unfoldable pub ending_words : Bool → Bool → Verdict → List (List ℕ)
ending_words state log verdict = state_words state ++ (log_words log ++ verdict_words verdict)

-- The words of a rule of a table of the families.
unfoldable pub rule_words : Families → Rule → List (List ℕ)
rule_words families r = family_words families r.family ++ (proto_words r.proto
    ++ (addresses_words r.family r.src r.dst ++ (ports_words r.proto r.sports r.dports
    ++ (icmp_words r.family r.itypes r.icodes
    ++ (flags_words r.flags ++ ending_words r.state r.log r.verdict)))))

-- A remark is a comment of free text, a rule its words.
unfoldable pub item_rows : Families → Item → List Row
item_rows families (Remark text) = row 8 (codes "#" ∷ words_in text) ∷ []
item_rows families (ARule r) = row 8 (rule_words families r) ∷ []

-- ---- sections

abbrev pub hook_word : Hook → List ℕ
hook_word Input = codes "input"
hook_word Output = codes "output"
hook_word Forward = codes "forward"

abbrev pub families_word : Families → List ℕ
families_word Inet = codes "inet"
families_word Inet6 = codes "inet6"
families_word Mixed = codes "mixed"

-- The family of the table: `inet` is that of both.
abbrev pub table_word : Families → List ℕ
table_word Inet = codes "ip"
table_word Inet6 = codes "ip6"
table_word Mixed = codes "inet"

abbrev pub default_word : Bool → List ℕ
default_word true = codes "accept;"
default_word false = codes "drop;"

abbrev pub priority_word : ℤ → List ℕ
priority_word priority = signed_decimal priority ++ codes ";"

-- A section begins with a comment that names its target.
abbrev pub target_row : Hook → Families → Row
target_row hook families =
    row 0 (codes "##" ∷ codes "nftables" ∷ hook_word hook ∷ families_word families ∷ [])

abbrev pub table_row : List ℕ → Families → ℕ → Row
table_row command families number =
    row 0 (command ∷ codes "table" ∷ table_word families ∷ table_name number ∷ [])

abbrev pub start_row : Families → ℕ → Row
start_row families number =
    row 0 (codes "table" ∷ table_word families ∷ table_name number ∷ codes "{" ∷ [])

-- The table is added, so that it can be deleted, which takes an older table of its name away; then it
-- is made.
abbrev pub table_rows : Hook → Families → ℕ → List Row
table_rows hook families number = target_row hook families ∷ table_row (codes "add") families number
    ∷ table_row (codes "delete") families number ∷ start_row families number ∷ []

-- Its one chain is a base chain, to which packets come at the hook.
abbrev pub chain_rows : Hook → ℤ → Bool → List Row
chain_rows hook priority accept =
    row 4 (codes "chain" ∷ hook_word hook ∷ codes "{" ∷ [])
    ∷ row 8 (codes "type" ∷ codes "filter" ∷ codes "hook" ∷ hook_word hook ∷ codes "priority"
    ∷ priority_word priority ∷ codes "policy" ∷ default_word accept ∷ []) ∷ []

unfoldable pub head_rows : Hook → Families → ℕ → ℤ → Bool → List Row
head_rows hook families number priority accept =
    table_rows hook families number ++ chain_rows hook priority accept

abbrev pub end_rows : List Row
end_rows = row 4 (codes "}" ∷ []) ∷ row 0 (codes "}" ∷ []) ∷ []

unfoldable pub section_rows : Section → List Row
section_rows s = head_rows s.hook s.families s.number s.priority s.accept
    ++ (flat_map (item_rows s.families) s.items ++ end_rows)

-- The text of a document is its sections, one behind another.
abbrev pub text_of : List Section → List ℕ
text_of doc = text_of_rows (flat_map section_rows doc)

-- The bytes spell the document: it is valid, and they are its text.
abbrev pub Spells : List ℕ → List Section → Type 0
Spells bytes doc = IsSpelling IsDocument text_of bytes doc
